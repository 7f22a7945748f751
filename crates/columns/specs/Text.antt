-- A quoted text as the list of its bytes, so that a worked example shows text as it is printed. Assumes nothing.
use Rattle.std.specs.Prelude.{ℕ, List, [], ◌∷◌}
use Prim.Native.Char.{code}
use Prim.Native.String.{String}
use Prim.Native.String as Quoted

-- the bytes of a text of ASCII characters
unfoldable pub bytes : String → List ℕ
bytes Quoted.[] = []
bytes (Quoted.◌∷◌ c s) = code c ∷ bytes s
