-- Lists read off a function of the place, first to last and last to first. Assumes nothing.
use Rattle.std.specs.Prelude.{ℕ, zero, suc, List, [], ◌∷◌, ◌++◌}

unfoldable pub upto : {A : Type 0} → (ℕ → A) → ℕ → List A
upto g zero = []
upto g (suc n) = upto g n ++ (g n ∷ [])

unfoldable pub downto : {A : Type 0} → (ℕ → A) → ℕ → List A
downto g zero = []
downto g (suc n) = g n ∷ downto g n

-- n of them, from place i on
unfoldable pub from : {A : Type 0} → (ℕ → A) → ℕ → ℕ → List A
from g i zero = []
from g i (suc n) = g i ∷ from g (suc i) n
