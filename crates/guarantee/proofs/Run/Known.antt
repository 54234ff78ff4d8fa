-- What is known of every tag on a board, from the log (Known): it passes question 1, and its timestamp is at most the number
-- of writes that have turned. A write that turns is one more; so within the limit question 10 never refuses.
use Prim.Native.Nat.{ℕ, ◌≤◌, ◌<◌}
use mathlib.Core.Bool.{Bool, true, false, ◌&&◌}
use mathlib.Core.List.{List, ◌∷◌}
use mathlib.Core.Path.{refl, sym, ap, ◌≡◌, ◌∙◌}
use native.Mathlib.Omega.{arith}
use Rattle.parts.proofs.FiniteLaws.{and_left, and_right}
use Rattle.parts.specs.Finite.{one}
use Rattle.parts.specs.Parts.{is_asking, is_telling, writes}
use Rattle.parts.specs.declared.Setup.{Setup}
use Rattle.parts.specs.declared.Tag.{Tag}
use Rattle.board.specs.Boards.{console_at}
use Rattle.board.specs.declared.Board.{Board}
use Rattle.guarantee.specs.Claim.{◌also◌, All, Any, OpenAt, here, none, there}
use Rattle.guarantee.specs.Log.{Op, tally}
use Rattle.guarantee.proofs.Laws.Lists.{Each, any_all, link, no_more}
use Rattle.guarantee.proofs.Laws.Sizes.{Allowed}
use Rattle.guarantee.proofs.Laws.States.{both, telling_waits}
use Rattle.guarantee.proofs.Board.Boards.{Good}
use Rattle.guarantee.proofs.Board.Consoles.{Fair, zero_good}
use Rattle.guarantee.proofs.Run.Moves.{Moves, OpOk}
use mathlib.Core.Bool.{and-false}

one_le : (a b : Bool) → (a ≡ true → b ≡ true) → one a ≤ one b
one_le true b h = omega (arith, ap one (h refl))
one_le false b h = omega arith

pub tally_le : {R : Op → Op → Type 0} (p q : Op → Bool) → ((x y : Op) → R x y → p x ≡ true → q y ≡ true) → {l r : List Op} → Each R l r → tally p l ≤ tally q r
unfolding tally
tally_le p q h no_more = omega arith
tally_le p q h (link {x} {y} e es) = omega (arith, one_le (p x) (q y) (h x y e), tally_le p q h es)

-- one of them passes the second test only
pub tally_lt : {R : Op → Op → Type 0} {P : Op → Type 0} (p q : Op → Bool) → ((x y : Op) → R x y → p x ≡ true → q y ≡ true)
    → ((x y : Op) → R x y → P x → (p x ≡ false) × (q y ≡ true)) → {l r : List Op} → Each R l r → Any P l → tally p l < tally q r
unfolding tally
tally_lt p q h s (link {x} {y} e es) (here z) = omega (arith, ap one (s x y e z).0, ap one (s x y e z).1, tally_le p q h es)
tally_lt p q h s (link {x} {y} e es) (there z) = omega (arith, one_le (p x) (q y) (h x y e), tally_lt p q h s es z)
tally_lt {R = R} {P = P} p q h s no_more x4 = elim x4 [ ]

pub tally_none : (p : Op → Bool) {l : List Op} → All (λ x. p x ≡ false) l → tally p l ≡ 0
unfolding tally
tally_none p none = refl
tally_none p (e also es) = omega (arith, ap one e, tally_none p es)

-- a write that has turned
abbrev pub has_written : Op → Bool
has_written x = x.wrote && x.turned

written : (x : Op) → x.wrote ≡ true → x.turned ≡ true → has_written x ≡ true
written x e f = both e f

pub unwritten : (x : Op) → x.turned ≡ false → has_written x ≡ false
unwritten x e = rw e (and-false x.wrote)

pub record Known (σ : Setup) (l : List Op) (t : Tag) (v : ℕ) : Type 0 where
  pub good : Good σ t v
  pub few : t.ts ≤ tally has_written l

pub known_fair : (σ : Setup) (l : List Op) → Allowed σ → Fair (Known σ l) σ
known_fair σ l al = record { good = λ t v k. k.good; zero_in = record { good = zero_good σ al; few = omega arith } }

pub good_fair : {σ : Setup} → Allowed σ → Fair (Good σ) σ
good_fair {σ} al = record { good = λ t v k. k; zero_in = zero_good σ al }

module _ {σ : Setup} {place : ℕ} {b b' : Board} where
  stays_written : (x y : Op) → Moves σ place b b' x y → has_written x ≡ true → has_written y ≡ true
  stays_written x y mv e = written y (mv.same_wrote ∙ and_left x.wrote x.turned e) (mv.keeps (and_right x.wrote x.turned e))

  pub known_moves : {l l' : List Op} → Each (Moves σ place b b') l l' → (t : Tag) (v : ℕ) → Known σ l t v → Known σ l' t v
  known_moves es t v k = record { good = k.good; few = omega (arith, k.few, tally_le has_written has_written stays_written es) }

  -- a write turns: one more has
  pub more_written : {l l' : List Op} (c : ℕ) → Each (Moves σ place b b') l l' → All (OpOk σ place b) l → Any (OpenAt c) l
      → is_asking (console_at b c).state ≡ true → writes (console_at b c).state ≡ true → is_telling (console_at b' c).state ≡ true → tally has_written l < tally has_written l'
  more_written c es oks o p w t = tally_lt has_written has_written stays_written
      (λ x y mv z. (
        unwritten x (z.0.asks z.1.0 (rw z.1.1 p)),
        written y (mv.same_wrote ∙ sym (z.0.writes z.1.0) ∙ rw z.1.1 w) (told x y mv z.1),
      )) es (any_all oks o)
    where
      told : (x y : Op) → Moves σ place b b' x y → OpenAt c x → y.turned ≡ true
      told x y mv o = mv.ok.tells (mv.stays o.0 (rw o.1 (telling_waits (console_at b' c).state t))) (rw (mv.same_console ∙ o.1) t)

pub known_cons : {σ : Setup} {l : List Op} (x : Op) (t : Tag) (v : ℕ) → Known σ l t v → Known σ (x ∷ l) t v
unfolding tally
known_cons x t v k = record { good = k.good; few = omega (arith, k.few) }
