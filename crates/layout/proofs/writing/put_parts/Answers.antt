-- One turn of the loop is one part more (one_more).
use Rattle.std.proofs.Common.{take, length, ◌≡◌, ◌≤◌, ◌+◌, ◌*◌, arith}
use Rattle.std.proofs.lemmas.List.Elements.{All-more}
use Rattle.std.proofs.lemmas.List.{take_all}
use Rattle.std.proofs.lemmas.List.Edits.{sets}
use Rattle.std.specs.List.{flat_map}
use Rattle.std.proofs.Math.Seq.{length-sets}
use Rattle.std.proofs.Math.Nat.{mul-le-mul_right}
use Rattle.layout.proofs.Rows.{one_more}
use Rattle.layout.proofs.writing.put_parts.Goals as goal

pub loop-k-preserved : goal.loop-k-preserved
loop-k-preserved g c =
    let m = g.T.InWords in
    let k = c.loop-k.k in
    let xs = c.args.parts.now in
    let room : (k + 1) * g.row.N ≤ g.row.K * g.row.N = mul-le-mul_right g.row.N (omega arith) in
    let long : length c.loop-k.w ≡ length c.args.w.now = rw c.loop-k.invariant.0 (length-sets c.args.w.now c.args.at (flat_map m.fields (take k xs))) in
    let put : c.put_words.new.w ≡ sets c.loop-k.w (c.args.at + k * g.row.N) c.to_words.result = c.put_words.ensures.0 (omega (arith, room, long, c.told-w, c.requires)) in
    let more = one_more m.fields g.met.T.InWords.wide xs k c.index-parts-k.result c.args.w.now c.args.at (omega arith) in
    (rw (put, c.loop-k.invariant.0, c.to_words.ensures.value) more, All-more m.fits xs k c.index-parts-k.result (omega arith) c.loop-k.invariant.1 c.to_words.ensures.typed)

pub returns-clause-written : goal.returns-clause-written
returns-clause-written g c = rw (take_all c.loop-k.k c.args.parts.now (omega arith)) at c.loop-k.invariant.0

pub returns-clause-fit : goal.returns-clause-fit
returns-clause-fit g c = rw (take_all c.loop-k.k c.args.parts.now (omega arith)) at c.loop-k.invariant.1
