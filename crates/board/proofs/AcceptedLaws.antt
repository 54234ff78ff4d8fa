-- Of an accepted delivery: its console and its node are the board's, and but for what it sends the cells stay.
use Prim.Native.Nat.{ℕ, ◌≤◌, ◌<◌}
use mathlib.Core.Bool.{Bool, true, false, cond}
use mathlib.Core.Path.{refl, sym, ap, ◌≡◌, ◌∙◌}
use native.Mathlib.Omega.{arith}
use borrow.Author.Tests.{ltb-true}
use Rattle.std.specs.Prelude.{Ok, Err, ltb}
use Rattle.std.specs.Result.{is_ok}
use Rattle.std.proofs.lemmas.Bool.{true≢false}
use Rattle.parts.specs.Outcomes.{accepted}
use Rattle.decisions.specs.declared.Change.{Change}
use Rattle.decisions.specs.declared.Part.{Part}
use Rattle.decisions.specs.declared.Part.TheVariants.{Neither, ConsoleTo, NodeTo}
use Rattle.decisions.specs.declared.refusals.Refusal.{Refusal}
use Rattle.decisions.specs.Deliver.{delivered, accepts}
use Rattle.decisions.specs.Questions.{guarded}
use Rattle.decisions.specs.Steps.{Decision}
use Rattle.board.specs.declared.Board.{Board}
use Rattle.board.specs.Applied.{with_part, applied}
use Rattle.board.specs.Boards.{with_console, with_node}
use Rattle.board.specs.WellFormed.{well_formed}
use Rattle.board.specs.Deliver.{delivery, deliver, deliverable}
use Rattle.board.proofs.WellFormedLaws.{n_at_most, m_at_most}

-- what was accepted was answered yes
yes_if : (y : Bool) (x : Decision) (r : Refusal) (d : Change) → cond y x (Err r) ≡ Ok d → (y ≡ true) × (x ≡ Ok d)
yes_if true x r d e = (refl, e)
yes_if false x r d e = absurd (true≢false (ap is_ok (sym e)))

-- its console and its node are those of a well-formed board
module _ (b : Board) (c k : ℕ) where
  pub asked : (d : Change) → delivery b c k ≡ Ok d → (well_formed b ≡ true) × (c < b.setup.m) × (k < b.setup.n)
  unfolding delivered guarded
  asked d e =
      let asked_1 = yes_if (well_formed b) _ _ d e in
      let asked_4 = yes_if (ltb c b.setup.m) _ _ d asked_1.1 in
      let asked_5 = yes_if (ltb k b.setup.n) _ _ d asked_4.1 in
      (asked_1.0, ltb-true c b.setup.m asked_4.0, ltb-true k b.setup.n asked_5.0)

  pub in_range : (d : Change) → delivery b c k ≡ Ok d → (c < 8) × (k < 5) × (b.setup.n ≤ 5)
  in_range d e =
      let a = asked d e in
      let n_5 = n_at_most b a.0 in
      (omega (arith, a.1, m_at_most b a.0), omega (arith, a.2, n_5), n_5)

  -- a delivery is accepted if its decision is no refusal
  pub deliverable_as : deliverable b c k ≡ accepts (delivery b c k)
  unfolding deliverable deliver applied
  deliverable_as = go (delivery b c k)
    where
      go : (x : Decision) → accepted (applied b c k x).outcome ≡ accepts x
      go (Err r) = refl
      go (Ok d) = refl

  pub deliverable_in_range : deliverable b c k ≡ true → (well_formed b ≡ true) × (c < b.setup.m) × (k < b.setup.n)
  deliverable_in_range h = go (delivery b c k) refl (sym deliverable_as ∙ h)
    where
      go : (x : Decision) → delivery b c k ≡ x → accepts x ≡ true → (well_formed b ≡ true) × (c < b.setup.m) × (k < b.setup.n)
      go (Err r) e a = absurd (true≢false (sym a))
      go (Ok d) e a = asked d e

-- only what is sent changes the cells
pub part_keeps_cells : (b : Board) (c k : ℕ) (p : Part) → (with_part b c k p).cells ≡ b.cells
unfolding with_part with_console with_node
part_keeps_cells b c k Neither = refl
part_keeps_cells b c k (ConsoleTo x) = refl
part_keeps_cells b c k (NodeTo y) = refl
