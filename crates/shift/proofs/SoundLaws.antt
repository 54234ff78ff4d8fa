-- The tags of records that are sound may be compared.
use Prim.Native.Nat.{zero, suc, ◌<◌}
use mathlib.Core.Bool.{true, ◌&&◌, ◌||◌}
use mathlib.Core.List.{List, [], ◌∷◌}
use mathlib.Core.Path.{◌≡◌}
use native.Mathlib.Omega.{arith}
use borrow.Author.Tests.{ltb-true}
use lib.Dec.{ltb, leb, eqb}
use Rattle.std.specs.Prelude.{All}
use Rattle.std.specs.List.{list_all}
use Rattle.parts.specs.Limits.{max_consoles, max_ts, max_life}
use Rattle.parts.proofs.FiniteLaws.{and_left, and_right}
use Rattle.well_formed.specs.Clauses.{tag_ok}
use Rattle.shift.specs.declared.Record.{Record}
use Rattle.shift.specs.Faults.{is_sound, Comparable}

sound_comparable : (x : Record) → is_sound x ≡ true → x.tag.console < max_consoles
unfolding is_sound tag_ok
sound_comparable x h =
    let tag = and_right (eqb x.end 0 || ltb x.begin x.end) _ (and_left ((eqb x.end 0 || ltb x.begin x.end) && tag_ok max_consoles x.tag 0) _ h) in
    ltb-true x.tag.console max_consoles (and_right (leb x.tag.ts max_ts) _ (and_left (leb x.tag.ts max_ts && ltb x.tag.console max_consoles) _
    (and_left (leb x.tag.ts max_ts && ltb x.tag.console max_consoles && leb x.tag.life max_life) _ tag)))

pub sound_all : (l : List Record) → list_all is_sound l ≡ true → All Comparable l
sound_all [] h k d i = absurd (omega arith)
sound_all (x ∷ l) h zero d i = sound_comparable x (and_left (is_sound x) _ h)
sound_all (x ∷ l) h (suc k) d i = sound_all l (and_right (is_sound x) _ h) k d (omega arith)
