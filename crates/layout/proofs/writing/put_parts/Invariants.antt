-- The first k parts are written, and what their type says is known of them.
use Rattle.std.proofs.Common.{◌≡◌, take}
use Rattle.std.specs.List.{All, flat_map}
use Rattle.std.proofs.lemmas.List.Edits.{sets}
use Rattle.layout.proofs.writing.put_parts.Given as goal

abbrev pub invariant-loop-k : goal.invariant-loop-k
invariant-loop-k g l =
    let m = g.T.InWords in
    (l.w ≡ sets l.initial.w l.at (flat_map m.fields (take l.k l.parts))) × All m.fits (take l.k l.parts)
