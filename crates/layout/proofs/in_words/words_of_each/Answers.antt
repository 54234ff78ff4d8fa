-- As many words as K parts have are K chunks, they are the first ones (fewer_chunks), and they lie in the board's words
-- (chunks_within).
use Rattle.std.proofs.Common.{◌-◌, ◌/◌, ◌≤◌, length, take, drop, ap, ◌∙◌, arith}
use Rattle.std.proofs.Math.Nat.{le-div_iff_mul-le}
use Rattle.layout.specs.Layout.{board_words}
use Rattle.layout.proofs.Rows.{fewer_chunks, chunks_within, rest_long}
use Rattle.layout.proofs.in_words.words_of_each.Goals as goal

pub unwrap-requires : goal.unwrap-requires
unwrap-requires g c =
    let long = rest_long c.args.at board_words c.args.w.now c.told-w in
    let enough : g.row.K ≤ length c.as_chunks.result.0.now = rw c.as_chunks.ensures.front_len ((le-div_iff_mul-le c.requires.some.0).1 (omega (arith, long, c.requires.enough))) in
    c.first_chunk.ensures.variant.1 enough

pub returns : goal.returns
returns g c =
    let left = board_words - c.args.at in
    let after = drop c.args.at c.args.w.now in
    let long = rest_long c.args.at board_words c.args.w.now c.told-w in
    let enough : g.row.K ≤ length (take left after) / g.row.N = (le-div_iff_mul-le c.requires.some.0).1 (omega (arith, long, c.requires.enough)) in
    let first = rw c.unwrap.ensures at c.first_chunk.ensures.cases in
    first.same ∙ ap (take g.row.K) c.as_chunks.ensures.front ∙ fewer_chunks g.row.N g.row.K _ (take left after) enough ∙ chunks_within g.row.N g.row.K left after (omega (arith, c.requires.enough))
