-- The Rust's records as definitions: `ProofTerm`, `TypeJudgment`, `Sequent` with its methods, and `Prop`'s structural equality. A `Prop`
-- is a Form: Atom, ForAll and Exists are its leaves of kind 2, 6 and 7. Assumes nothing.
use Rattle.std.specs.Prelude.{ℕ, zero, suc, Bool, true, false, ◌&&◌, List, [], ◌∷◌, ◌++◌, eqb}
use Rattle.std.proofs.Math.Option.{Option, none, some}
use Rattle.theory.specs.Form.{Form, top, bot, leaf, and, or, imp}
use Rattle.theory.specs.Term as Tree
use Rattle.theory.specs.Names.{bytes_of}

-- pub enum ProofTerm: the twelve kinds that the prover makes. Spans and the types of parameters are None throughout; `Unit` is UnitTerm
pub data ProofTerm : Type 0 where
  Ident : List ℕ → ProofTerm
  Pair : ProofTerm → ProofTerm → ProofTerm
  ProjectFst : ProofTerm → ProofTerm
  ProjectSnd : ProofTerm → ProofTerm
  Function : List ℕ → ProofTerm → ProofTerm
  Application : ProofTerm → ProofTerm → ProofTerm
  OrLeft : ProofTerm → ProofTerm
  OrRight : ProofTerm → ProofTerm
  Case : ProofTerm → List ℕ → ProofTerm → List ℕ → ProofTerm → ProofTerm
  Abort : ProofTerm → ProofTerm
  TypeAscription : ProofTerm → Form → ProofTerm
  UnitTerm : ProofTerm

-- `==` of two `Prop`s, whose file is not given: structural equality, as document 01 has it
unfoldable pub equal : Form → Form → Bool
equal top top = true
equal top bot = false
equal top (leaf k y) = false
equal top (and c d) = false
equal top (or c d) = false
equal top (imp c d) = false
equal bot top = false
equal bot bot = true
equal bot (leaf k y) = false
equal bot (and c d) = false
equal bot (or c d) = false
equal bot (imp c d) = false
equal (leaf k y) top = false
equal (leaf k y) bot = false
equal (leaf k y) (leaf k' y') = eqb k k' && eqb y y'
equal (leaf k y) (and c d) = false
equal (leaf k y) (or c d) = false
equal (leaf k y) (imp c d) = false
equal (and a b) top = false
equal (and a b) bot = false
equal (and a b) (leaf k y) = false
equal (and a b) (and c d) = equal a c && equal b d
equal (and a b) (or c d) = false
equal (and a b) (imp c d) = false
equal (or a b) top = false
equal (or a b) bot = false
equal (or a b) (leaf k y) = false
equal (or a b) (and c d) = false
equal (or a b) (or c d) = equal a c && equal b d
equal (or a b) (imp c d) = false
equal (imp a b) top = false
equal (imp a b) bot = false
equal (imp a b) (leaf k y) = false
equal (imp a b) (and c d) = false
equal (imp a b) (or c d) = false
equal (imp a b) (imp c d) = equal a c && equal b d

-- pub struct TypeJudgment { pub prop: Prop, pub proof_term: ProofTerm }
pub record TypeJudgment : Type 0 where
  pub prop : Form
  pub proof_term : ProofTerm

-- TypeJudgment::new(prop, proof_term)
abbrev pub judgment : Form → ProofTerm → TypeJudgment
judgment a t = record { prop = a; proof_term = t }

-- struct Sequent { unordered_ctx: Vec<TypeJudgment>, ordered_ctx: Vec<TypeJudgment>, goal: &Prop }; the ordered context is only pushed and
-- popped: its last element stands first
pub record Sequent : Type 0 where
  pub unordered_ctx : List TypeJudgment
  pub ordered_ctx : List TypeJudgment
  pub goal : Form

-- pub fn with_new_goal(&self, goal: &Prop) -> Self
abbrev pub with_new_goal : Sequent → Form → Sequent
with_new_goal q g = record { unordered_ctx = q.unordered_ctx; ordered_ctx = q.ordered_ctx; goal = g }

-- pub fn append_ordered(&mut self, type_judgment: TypeJudgment) { self.ordered_ctx.push(type_judgment); }
abbrev pub append_ordered : Sequent → TypeJudgment → Sequent
append_ordered q e = record { unordered_ctx = q.unordered_ctx; ordered_ctx = e ∷ q.ordered_ctx; goal = q.goal }

-- pub fn append_unordered(&mut self, type_judgment: TypeJudgment) { self.unordered_ctx.push(type_judgment); }
abbrev pub append_unordered : Sequent → TypeJudgment → Sequent
append_unordered q e = record { unordered_ctx = q.unordered_ctx ++ (e ∷ []); ordered_ctx = q.ordered_ctx; goal = q.goal }

-- `unordered_ctx.remove(i)`, on a list and on a sequent
unfoldable pub removed : ℕ → List TypeJudgment → List TypeJudgment
removed i [] = []
removed zero (e ∷ es) = es
removed (suc i) (e ∷ es) = e ∷ removed i es

abbrev pub remove : Sequent → ℕ → Sequent
remove q i = record { unordered_ctx = removed i q.unordered_ctx; ordered_ctx = q.ordered_ctx; goal = q.goal }

-- self.unordered_ctx.iter().find(|elem| elem.prop == *prop), and of it the proof term
unfoldable pub find : Form → List TypeJudgment → Option ProofTerm
find a [] = none
find a (e ∷ es) = elim (equal e.prop a) [ true ↦ some e.proof_term | false ↦ find a es ]

-- a term of document 01 in the Rust's words, its numbers of names read as bytes: below 64 an assumption's, 64+g the generated index g
unfoldable pub named : List (List ℕ) → Tree.Term → ProofTerm
named n (Tree.Ident x) = Ident (bytes_of n x)
named n (Tree.Pair s t) = Pair (named n s) (named n t)
named n (Tree.Fst t) = ProjectFst (named n t)
named n (Tree.Snd t) = ProjectSnd (named n t)
named n (Tree.Fn x t) = Function (bytes_of n x) (named n t)
named n (Tree.App s t) = Application (named n s) (named n t)
named n (Tree.Inl t) = OrLeft (named n t)
named n (Tree.Inr t) = OrRight (named n t)
named n (Tree.Case h x s y t) = Case (named n h) (bytes_of n x) (named n s) (bytes_of n y) (named n t)
named n (Tree.Abort t) = Abort (named n t)
named n (Tree.Asc t A) = TypeAscription (named n t) A
named n Tree.Unit' = UnitTerm
