-- A turn ends the line before the first LF (around_lf, took_more); where there is none, the rest is held (no_lf).
use Rattle.std.proofs.Common.{◌≡◌, ◌++◌, ◌∷◌, [], List, ℕ, length, drop, ap, arith, length-append}
use Rattle.std.proofs.lemmas.List.{take_rest}
use Rattle.csv_lines.specs.Reading.{lf_byte}
use Rattle.schedule.proofs.ChunksLaws.{before_lf, around_lf, no_lf, took_more}
use Rattle.schedule.proofs.running.Run.take.Goals as goal

pub end_line-requires : goal.end_line-requires
end_line-requires c =
    let cut = c.split_at.ensures in
    let at = c.in-Some.ensures {u = tt} in
    let all = around_lf _ _ _ _ at cut.front cut.back in
    (omega (arith, ap length all, length-append {A = ℕ}), before_lf _ _ _ _ at cut.front cut.back)

pub loop-i-preserved : goal.loop-i-preserved
loop-i-preserved c =
    let cut = c.split_at.ensures in
    let line : List ℕ = c.split_at.result.0.now ++ lf_byte ∷ [] in
    let after : List ℕ = drop 1 c.split_at.result.1.now in
    let all : c.loop-i.rest.now ≡ line ++ after = around_lf _ _ _ _ (c.in-Some.ensures {u = tt}) cut.front cut.back in
    rw take_rest (record {
      room = omega (arith, c.loop-i.invariant.room, c.end_line.ensures.short, c.end_line.ensures.len, ap length all, length-append line after);
      goes_on = λ q t. c.loop-i.invariant.goes_on q (took_more _ _ _ _ _ _ c.end_line.ensures t all);
    })

pub hold-requires : goal.hold-requires
hold-requires c = no_lf c.loop-i.rest.now (c.in_default.ensures {u = tt})
