-- The end of a rule in the code: its last node, which is found, or no room for it. Assumes nothing.
use Rattle.std.specs.Prelude.{ℕ, ◌+◌, ◌≤◌, ◌<◌, List, [], ◌∷◌, Ok, Err}
use Rattle.theory.specs.Term.{Piece}
use Rattle.meter.specs.declared.State.{State}
use Rattle.meter.specs.declared.Limits.{Limits}
use Rattle.meter.specs.declared.Limit.TheVariants.{Terms}
use Rattle.meter.specs.declared.Missed.TheVariants.{Short}
use Rattle.meter.specs.Moves.{Answer, spent}
use Rattle.search_laws.specs.Reading.{put_nodes}

pub data Closes (m : Limits) (t : List ℕ) (s : State) (p : Piece) : Answer → List ℕ → Type 0 where
  closes_short : m.terms < s.terms + 1 → Closes m t s p (Err (Short Terms s)) t
  closes_node : s.terms + 1 ≤ m.terms → Closes m t s p
      (Ok (record { node = s.terms; state = spent s s.indices 0 1 })) (put_nodes t s.terms (p ∷ []))
