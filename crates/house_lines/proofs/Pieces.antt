-- Lines as the pieces that they are laid by. Assumes nothing.
use Prim.Native.Nat.{ℕ}
use mathlib.Core.Path.{◌≡◌, refl}
use mathlib.Core.Option.{some}
use mathlib.Core.List.{List, [], ◌∷◌}
use Rattle.theory.specs.Text.{bytes, decimal}
use Rattle.theory.specs.File.{line, counted, unprovable_lines, proved_with}
use Rattle.house_text.specs.Laid.{joined}

pub line_pieces : (text : List ℕ) → joined (some text) (some (10 ∷ [])) ≡ some (line text)
unfolding joined line
line_pieces text = refl

pub counted_pieces : (what : List ℕ) (n : ℕ) → joined (joined (some what) (some (decimal n))) (some (10 ∷ [])) ≡ some (counted what n)
unfolding joined line counted
counted_pieces what n = refl

pub unprovable_pieces : (steps : ℕ) →
    joined (some (line (bytes "unprovable"))) (some (counted (bytes "steps ") steps)) ≡ some (unprovable_lines steps)
unfolding joined unprovable_lines
unprovable_pieces steps = refl

pub proved_pieces : (steps names formulas terms : ℕ) (text : List ℕ) →
    joined (some (line (bytes "proved"))) (joined (some (counted (bytes "steps ") steps)) (joined (some (counted (bytes "names ") names))
    (joined (some (counted (bytes "formulas ") formulas)) (joined (some (counted (bytes "terms ") terms)) (some (line text)))))) ≡
    some (proved_with steps names formulas terms text)
unfolding joined proved_with
proved_pieces steps names formulas terms text = refl
