-- A quoted text as the list of its bytes, so that examples show what they read or write. It is for ASCII, where a
-- character's code is its byte.
use Rattle.std.specs.Prelude.{ℕ, List, [], ◌∷◌}
use Prim.Native.Char.{code}
use Prim.Native.String as string

unfoldable pub bytes : string.String → List ℕ
bytes string.[] = []
bytes (string.◌∷◌ c s) = code c ∷ bytes s
