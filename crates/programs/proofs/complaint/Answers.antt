-- The reason is what without_number left of the text.
use Rattle.std.specs.Prelude.{IfOk, Result, Ok, Err}
use Rattle.programs.proofs.complaint.Goals as goal

if_ok : {A E : Type 0} (r : Result A E) (P Q : A → Type 0) → IfOk r P → ((x : A) → P x → Q x) → IfOk r Q
if_ok (Ok x) P Q h f = f x h
if_ok (Err e) P Q h f = h

-- src/lib.rt:15:1
pub returns : goal.returns
returns g c = if_ok c.format-2.result _ _ c.format-2.ensures.ok (λ line e. (c.without_number-why.result.now, e))
