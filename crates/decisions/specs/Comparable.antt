-- Where a delivery may compare tags: 'only where both console numbers are below 8'; a byte has room for its node, and a
-- tag for its console. What delivering promises rests on it, and a well-formed board gives it.
use Rattle.std.specs.Prelude.{ℕ, ◌<◌, ◌≡◌}
use Rattle.parts.specs.Limits.{max_consoles}
use Rattle.parts.specs.declared.Console.{Console}
use Rattle.parts.specs.declared.Frame.{Frame}
use Rattle.parts.specs.declared.Frame.TheVariants.{Reply, Put}
use Rattle.parts.specs.declared.Node.{Node}
use Rattle.parts.specs.declared.Tag.{Tag}

-- of console c, which is x, node k, which is y, and the frame f between them
pub record Comparable (c k : ℕ) (x : Console) (y : Node) (f : Frame) : Type 0 where
  pub c_8 : c < max_consoles
  pub k_8 : k < 8
  pub best_8 : x.best.console < max_consoles
  pub node_8 : y.tag.console < max_consoles
  pub reply_8 : (t : Tag) (v : ℕ) → f ≡ Reply t v → t.console < max_consoles
  pub put_8 : (t : Tag) (v : ℕ) → f ≡ Put t v → t.console < max_consoles
