-- All that the proof uses of a setup: its numbers are in range, the two sizes meet, and an asking group is no smaller than a
-- telling group.
use Prim.Native.Nat.{ℕ, ◌+◌, ◌≤◌, ◌<◌}
use native.Mathlib.Omega.{arith}
use Rattle.parts.specs.Sizes.{ask_size, majority, tell_size}
use Rattle.parts.specs.declared.Setup.{Setup}
use Rattle.parts.specs.declared.State.{State}
use Rattle.parts.specs.declared.State.TheVariants.{Asking, Down, Idle, Telling}

pub record Allowed (σ : Setup) : Type 0 where
  pub n_1 : 1 ≤ σ.n
  pub n_5 : σ.n ≤ 5
  pub m_1 : 1 ≤ σ.m
  pub m_8 : σ.m ≤ 8

module _ {σ : Setup} (al : Allowed σ) where
  -- the two sizes add up to more than n
  pub quorum : σ.n < ask_size σ + tell_size σ
  unfolding ask_size tell_size majority
  quorum = omega arith

  pub ask_pos : 0 < ask_size σ
  unfolding ask_size majority
  ask_pos = omega arith

  pub tell_pos : 0 < tell_size σ
  unfolding tell_size majority
  tell_pos = omega arith

-- an asking group is large enough for a telling group: an early finish rests on it
pub tell_le_ask : (σ : Setup) → tell_size σ ≤ ask_size σ
unfolding ask_size tell_size
tell_le_ask σ = omega arith

-- how many answers end the phase of a console in this state
abbrev pub size_for : Setup → State → ℕ
size_for σ Idle = 0
size_for σ (Asking w) = ask_size σ
size_for σ (Telling w) = tell_size σ
size_for σ Down = 0
