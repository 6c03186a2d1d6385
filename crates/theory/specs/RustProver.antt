-- The Rust's `prove/mod.rs` as a definition, line by line: each function of `Prover` with the Rust's lines above its own. The generator's
-- idx goes in and comes out of each, since `&mut self` shares it; `clone` and `boxed` copy and leave no trace. Assumes nothing.
use Rattle.std.specs.Prelude.{ℕ, zero, suc, true, false, List, [], ◌∷◌, map, reverse, length}
use Rattle.std.proofs.Math.Option.{Option, none, some}
use Rattle.theory.specs.Form.{Form, top, bot, leaf, and, or, imp}
use Rattle.theory.specs.Names.{among}
use Rattle.theory.specs.Meter.{Judgement, by_right, by_left, by_search}
use Rattle.theory.specs.RustNames.{generate}
use Rattle.theory.specs.RustTerm.{ProofTerm, Ident, Pair, ProjectFst, ProjectSnd, Function, Application, OrLeft, OrRight, Case, Abort}
use Rattle.theory.specs.RustTerm.{TypeAscription, UnitTerm, TypeJudgment, judgment, Sequent, with_new_goal, append_ordered}
use Rattle.theory.specs.RustTerm.{append_unordered, remove, find}

-- the panics that the definition has: the power of a name overflows in the generator, and the assertion of search fails. Those that stand
-- behind a match that rules them out have no clause
pub data Panic : Type 0 where
  overflow : Panic
  assertion : Panic

-- what a call of the prover comes to: Some(term) or None with the generator's idx; a panic; unended: the bound on the depth of calls was
-- too small, which says nothing of the Rust
pub data Returned : Type 0 where
  Some : ProofTerm → ℕ → Returned
  None : ℕ → Returned
  panicked : Panic → Returned
  unended : Returned

-- let term = ..?;
unfoldable pub question : Returned → (ProofTerm → ℕ → Returned) → Returned
question (Some t idx) k = k t idx
question (None idx) k = None idx
question (panicked p) k = panicked p
question unended k = unended

-- if let Some(term) = .. { return .. }, and what stands after it
unfoldable pub if_let_some : Returned → (ProofTerm → ℕ → Returned) → (ℕ → Returned) → Returned
if_let_some (Some t idx) k after = k t idx
if_let_some (None idx) k after = after idx
if_let_some (panicked p) k after = panicked p
if_let_some unended k after = unended

-- prove_right, prove_left and search call one another through a function of this type
abbrev pub Call : Type 0
Call = Judgement → Sequent → ℕ → Returned

-- struct Prover { forbidden_idents: Vec<String>, identifier_generator: IdentifierGenerator }
module _ (forbidden : List (List ℕ)) where
  -- fn generate_identifier(&mut self) -> String {
  --     let mut ident = self.identifier_generator.generate();
  --     while self.forbidden_idents.contains(&ident) { ident = self.identifier_generator.generate(); }
  --     ident
  -- }
  -- with at most that many turns
  unfoldable pub generated : ℕ → ℕ → (List ℕ → ℕ → Returned) → Returned
  generated zero idx k = unended
  generated (suc turns) idx k =
      elim (generate idx) [
        | none ↦ panicked overflow
        | some ident ↦ elim (among ident forbidden) [ true ↦ generated turns (suc idx) k | false ↦ k ident (suc idx) ]
      ]

  -- one more than there are forbidden names: among so many, one is free
  unfoldable pub generate_identifier : ℕ → (List ℕ → ℕ → Returned) → Returned
  generate_identifier idx k = generated (suc (length forbidden)) idx k

  -- fn handle_and_right(&mut self, sequent: Sequent): let Prop::And(fst, snd) = sequent.goal
  unfoldable pub handle_and_right : Call → Sequent → Form → Form → ℕ → Returned
  handle_and_right call sequent fst snd idx =
      -- let fst_sequent = sequent.with_new_goal(fst); let fst_proof_term = self.prove_right(fst_sequent)?;
      question (call by_right (with_new_goal sequent fst) idx) λ fst_proof_term idx₁.
      -- let snd_sequent = sequent.with_new_goal(snd); let snd_proof_term = self.prove_right(snd_sequent)?;
      question (call by_right (with_new_goal sequent snd) idx₁) λ snd_proof_term idx₂.
      -- Some(Pair::create(fst_proof_term.boxed(), snd_proof_term.boxed(), None))
      Some (Pair fst_proof_term snd_proof_term) idx₂

  -- fn handle_impl_right(&mut self, mut sequent: Sequent): let Prop::Impl(fst, snd) = sequent.goal
  unfoldable pub handle_impl_right : Call → Sequent → Form → Form → ℕ → Returned
  handle_impl_right call sequent fst snd idx =
      -- let param_ident = self.generate_identifier();
      generate_identifier idx λ param_ident idx₁.
      -- let param_judgment = TypeJudgment::new(*fst.clone(), Ident::create(param_ident.clone()));
      -- sequent.append_ordered(param_judgment); sequent.goal = snd; let body_proof_term = self.prove_right(sequent)?;
      question (call by_right (with_new_goal (append_ordered sequent (judgment fst (Ident param_ident))) snd) idx₁) λ body_proof_term idx₂.
      -- Some(Function::create(param_ident, None, body_proof_term.boxed(), None))
      Some (Function param_ident body_proof_term) idx₂

  -- fn prove_right(&mut self, sequent: Sequent): match sequent.goal
  unfoldable pub prove_right : Call → Sequent → ℕ → Form → Returned
  prove_right call sequent idx top = Some UnitTerm idx
  prove_right call sequent idx bot = call by_left sequent idx
  prove_right call sequent idx (leaf k y) = call by_left sequent idx
  prove_right call sequent idx (or fst snd) = call by_left sequent idx
  prove_right call sequent idx (and fst snd) = handle_and_right call sequent fst snd idx
  prove_right call sequent idx (imp fst snd) = handle_impl_right call sequent fst snd idx

  -- fn handle_and_left(&mut self, type_judgment: TypeJudgment, mut sequent: Sequent): let Prop::And(fst, snd) = prop
  unfoldable pub handle_and_left : Call → ProofTerm → Form → Form → Sequent → ℕ → Returned
  handle_and_left call proof_term fst snd sequent idx =
      -- let fst_judgment = TypeJudgment::new(*fst, ProjectFst::create(proof_term.boxed(), None)); sequent.append_ordered(fst_judgment);
      let sequent₁ : Sequent = append_ordered sequent (judgment fst (ProjectFst proof_term)) in
      -- let snd_judgment = TypeJudgment::new(*snd, ProjectSnd::create(proof_term.boxed(), None)); sequent.append_ordered(snd_judgment);
      let sequent₂ : Sequent = append_ordered sequent₁ (judgment snd (ProjectSnd proof_term)) in
      -- self.prove_left(sequent)
      call by_left sequent₂ idx

  -- fn handle_or_left(&mut self, type_judgment: TypeJudgment, sequent: Sequent): let Prop::Or(fst, snd) = prop
  unfoldable pub handle_or_left : Call → ProofTerm → Form → Form → Sequent → ℕ → Returned
  handle_or_left call proof_term fst snd sequent idx =
      -- let fst_ident = self.generate_identifier(); let fst_judgment = TypeJudgment::new(*fst, Ident::create(fst_ident.clone()));
      generate_identifier idx λ fst_ident idx₁.
      -- fst_sequent.append_ordered(fst_judgment); let fst_term = self.prove_left(fst_sequent)?;
      question (call by_left (append_ordered sequent (judgment fst (Ident fst_ident))) idx₁) λ fst_term idx₂.
      -- let snd_ident = self.generate_identifier(); let snd_judgment = TypeJudgment::new(*snd, Ident::create(snd_ident.clone()));
      generate_identifier idx₂ λ snd_ident idx₃.
      -- snd_sequent.append_ordered(snd_judgment); let snd_term = self.prove_left(snd_sequent)?;
      question (call by_left (append_ordered sequent (judgment snd (Ident snd_ident))) idx₃) λ snd_term idx₄.
      -- Some(Case::create(proof_term.boxed(), fst_ident, fst_term.boxed(), snd_ident, snd_term.boxed(), None))
      Some (Case proof_term fst_ident fst_term snd_ident snd_term) idx₄

  -- fn handle_impl_left(&mut self, type_judgment: TypeJudgment, mut sequent: Sequent): let Prop::Impl(fst, snd) = prop; match *fst
  unfoldable pub handle_impl_left : Call → ProofTerm → Form → Sequent → ℕ → Form → Returned
  handle_impl_left call proof_term snd sequent idx top =
      -- Application::create(proof_term.boxed(), ProofTerm::Unit(None).boxed(), None); .. sequent.append_ordered(application_judgment);
      call by_left (append_ordered sequent (judgment snd (Application proof_term UnitTerm))) idx
  handle_impl_left call proof_term snd sequent idx (and and_fst and_snd) =
      -- let new_prop = Prop::Impl(and_fst, Prop::Impl(and_snd, snd).boxed());
      let new_prop : Form = imp and_fst (imp and_snd snd) in
      -- let fst_ident = self.generate_identifier(); let snd_ident = self.generate_identifier();
      generate_identifier idx λ fst_ident idx₁.
      generate_identifier idx₁ λ snd_ident idx₂.
      -- let new_proof_term = TypeAscription { Function { fst_ident, Function { snd_ident, Application(proof_term, Pair(fst, snd)) } } };
      let new_proof_term : ProofTerm =
      TypeAscription
      (Function fst_ident (Function snd_ident (Application proof_term (Pair (Ident fst_ident) (Ident snd_ident))))) new_prop in
      -- sequent.append_ordered(new_judgment); self.prove_left(sequent)
      call by_left (append_ordered sequent (judgment new_prop new_proof_term)) idx₂
  handle_impl_left call proof_term snd sequent idx (or or_fst or_snd) =
      -- let or_fst_prop = Prop::Impl(or_fst, snd.clone()); let or_fst_ident = self.generate_identifier();
      let or_fst_prop : Form = imp or_fst snd in
      generate_identifier idx λ or_fst_ident idx₁.
      -- TypeAscription { Function { or_fst_ident, Application { proof_term, OrLeft(Ident(or_fst_ident)) } } }
      let or_fst_proof_term : ProofTerm =
      TypeAscription (Function or_fst_ident (Application proof_term (OrLeft (Ident or_fst_ident)))) or_fst_prop in
      -- sequent.append_ordered(or_fst_judgment);
      let sequent₁ : Sequent = append_ordered sequent (judgment or_fst_prop or_fst_proof_term) in
      -- let or_snd_prop = Prop::Impl(or_snd.clone(), (*snd).boxed()); let or_snd_ident = self.generate_identifier();
      let or_snd_prop : Form = imp or_snd snd in
      generate_identifier idx₁ λ or_snd_ident idx₂.
      -- TypeAscription { Function { or_snd_ident, Application { proof_term, OrRight(Ident(or_snd_ident)) } } }
      let or_snd_proof_term : ProofTerm =
      TypeAscription (Function or_snd_ident (Application proof_term (OrRight (Ident or_snd_ident)))) or_snd_prop in
      -- sequent.append_ordered(or_snd_judgment); self.prove_left(sequent)
      call by_left (append_ordered sequent₁ (judgment or_snd_prop or_snd_proof_term)) idx₂
  -- Prop::False => self.prove_left(sequent)
  handle_impl_left call proof_term snd sequent idx bot = call by_left sequent idx
  -- sequent.append_unordered(TypeJudgment::new(Prop::Impl(fst, snd), proof_term)); self.prove_left(sequent)
  handle_impl_left call proof_term snd sequent idx (leaf k y) =
      call by_left (append_unordered sequent (judgment (imp (leaf k y) snd) proof_term)) idx
  handle_impl_left call proof_term snd sequent idx (imp a b) =
      call by_left (append_unordered sequent (judgment (imp (imp a b) snd) proof_term)) idx

  -- fn prove_left(&mut self, mut sequent: Sequent): match &type_judgment.prop, of the type judgment that was popped off the sequent
  unfoldable pub match_popped : Call → ProofTerm → Sequent → ℕ → Form → Returned
  match_popped call proof_term sequent idx top = call by_left sequent idx
  match_popped call proof_term sequent idx bot = Some (Abort proof_term) idx
  -- handle_atom_left: sequent.append_unordered(type_judgment); self.prove_left(sequent)
  match_popped call proof_term sequent idx (leaf k y) = call by_left (append_unordered sequent (judgment (leaf k y) proof_term)) idx
  match_popped call proof_term sequent idx (and fst snd) = handle_and_left call proof_term fst snd sequent idx
  match_popped call proof_term sequent idx (or fst snd) = handle_or_left call proof_term fst snd sequent idx
  match_popped call proof_term sequent idx (imp fst snd) = handle_impl_left call proof_term snd sequent idx fst

  -- if sequent.ordered_ctx.is_empty() { return self.search(sequent); } let type_judgment = sequent.ordered_ctx.pop().unwrap();
  unfoldable pub prove_left : Call → Sequent → ℕ → List TypeJudgment → Returned
  prove_left call sequent idx [] = call by_search sequent idx
  prove_left call sequent idx (e ∷ es) =
      match_popped call e.proof_term (record { unordered_ctx = sequent.unordered_ctx; ordered_ctx = es; goal = sequent.goal }) idx e.prop

  -- Impl Impl left rule: if let Prop::Impl(impl_impl_fst, impl_impl_snd) = *impl_fst; sequent is searching_sequent
  unfoldable pub impl_impl : Call → ProofTerm → Form → Sequent → (ℕ → Returned) → ℕ → Form → Returned
  impl_impl call proof_term impl_snd sequent next idx top = next idx
  impl_impl call proof_term impl_snd sequent next idx bot = next idx
  impl_impl call proof_term impl_snd sequent next idx (leaf k y) = next idx
  impl_impl call proof_term impl_snd sequent next idx (and a b) = next idx
  impl_impl call proof_term impl_snd sequent next idx (or a b) = next idx
  impl_impl call proof_term impl_snd sequent next idx (imp impl_impl_fst impl_impl_snd) =
      -- let fst_goal = Prop::Impl(impl_impl_fst, impl_impl_snd.clone()); let mut fst_sequent = searching_sequent.with_new_goal(&fst_goal);
      let fst_sequent : Sequent = with_new_goal sequent (imp impl_impl_fst impl_impl_snd) in
      -- let first_param_ident = self.generate_identifier();
      generate_identifier idx λ first_param_ident idx₁.
      -- let new_prop = Prop::Impl(impl_impl_snd.boxed(), impl_snd.boxed());
      let new_prop : Form = imp impl_impl_snd impl_snd in
      -- .. param_ident: self.generate_identifier(), in the innermost Function
      generate_identifier idx₁ λ second_param_ident idx₂.
      -- TypeAscription { Function { first_param_ident, Application { proof_term, Function { .., Ident(first_param_ident) } } } }
      let new_proof_term : ProofTerm =
      TypeAscription
      (Function first_param_ident (Application proof_term (Function second_param_ident (Ident first_param_ident)))) new_prop in
      -- fst_sequent.append_ordered(..); if let Some(fst_proof_term) = self.prove_right(fst_sequent) {
      if_let_some (call by_right (append_ordered fst_sequent (judgment new_prop new_proof_term)) idx₂)
      -- snd_sequent.append_ordered(TypeJudgment::new(*impl_snd, Application::create(proof_term.boxed(), fst_proof_term.boxed(), None)));
      -- if let Some(final_proof_term) = self.prove_left(snd_sequent) { return Some(final_proof_term); }
      (λ fst_proof_term idx₃.
      if_let_some (call by_left (append_ordered sequent (judgment impl_snd (Application proof_term fst_proof_term))) idx₃)
      (λ final_proof_term idx₄. Some final_proof_term idx₄) next)
      next

  -- let Prop::Impl(impl_fst, impl_snd) = prop else { continue; };
  unfoldable pub impl_rule : Call → ProofTerm → Sequent → (ℕ → Returned) → ℕ → Form → Returned
  impl_rule call proof_term sequent next idx top = next idx
  impl_rule call proof_term sequent next idx bot = next idx
  impl_rule call proof_term sequent next idx (leaf k y) = next idx
  impl_rule call proof_term sequent next idx (and a b) = next idx
  impl_rule call proof_term sequent next idx (or a b) = next idx
  impl_rule call proof_term sequent next idx (imp impl_fst impl_snd) = impl_impl call proof_term impl_snd sequent next idx impl_fst

  -- for i in 0..sequent.unordered_ctx.len() {
  --     let mut searching_sequent = sequent.clone();
  --     let TypeJudgment { prop, proof_term } = searching_sequent.unordered_ctx.remove(i);
  -- of which the elements from i on are left; None
  unfoldable pub impl_rules : Call → Sequent → ℕ → List TypeJudgment → ℕ → Returned
  impl_rules call sequent i [] idx = None idx
  impl_rules call sequent i (e ∷ es) idx =
      impl_rule call e.proof_term (remove sequent i) (λ idx₁. impl_rules call sequent (suc i) es idx₁) idx e.prop

  -- or left rule, or right rule, and then the Impl rules for every element in unordered ctx
  unfoldable pub or_rules : Call → Sequent → ℕ → Form → Returned
  or_rules call sequent idx top = impl_rules call sequent 0 sequent.unordered_ctx idx
  or_rules call sequent idx bot = impl_rules call sequent 0 sequent.unordered_ctx idx
  or_rules call sequent idx (leaf k y) = impl_rules call sequent 0 sequent.unordered_ctx idx
  or_rules call sequent idx (and a b) = impl_rules call sequent 0 sequent.unordered_ctx idx
  or_rules call sequent idx (imp a b) = impl_rules call sequent 0 sequent.unordered_ctx idx
  or_rules call sequent idx (or fst snd) =
      -- if let Some(proof_term) = self.prove_right(sequent.with_new_goal(fst)) { return Some(OrLeft::create(proof_term.boxed(), None)); }
      if_let_some (call by_right (with_new_goal sequent fst) idx) (λ proof_term idx₁. Some (OrLeft proof_term) idx₁) λ idx₁.
      -- if let Some(proof_term) = self.prove_right(sequent.with_new_goal(snd)) { return Some(OrRight::create(proof_term.boxed(), None)); }
      if_let_some (call by_right (with_new_goal sequent snd) idx₁) (λ proof_term idx₂. Some (OrRight proof_term) idx₂) λ idx₂.
      impl_rules call sequent 0 sequent.unordered_ctx idx₂

-- impl atom rule: if let Some(elem) = sequent.find_in_unordered_context_by_prop(&impl_fst) {
--     TypeJudgment::new(*impl_snd.clone(), Application::create(proof_term.boxed(), elem.proof_term.boxed(), None)) }, of an atom impl_fst
unfoldable pub atom_change : List TypeJudgment → ProofTerm → Form → Form → Option TypeJudgment
atom_change ctx proof_term impl_snd top = none
atom_change ctx proof_term impl_snd bot = none
atom_change ctx proof_term impl_snd (leaf k y) =
    elim (find (leaf k y) ctx) [ none ↦ none | some elem ↦ some (judgment impl_snd (Application proof_term elem)) ]
atom_change ctx proof_term impl_snd (and a b) = none
atom_change ctx proof_term impl_snd (or a b) = none
atom_change ctx proof_term impl_snd (imp a b) = none

-- let Prop::Impl(impl_fst, impl_snd) = prop else { continue; };
unfoldable pub change : List TypeJudgment → ProofTerm → Form → Option TypeJudgment
change ctx proof_term top = none
change ctx proof_term bot = none
change ctx proof_term (leaf k y) = none
change ctx proof_term (and a b) = none
change ctx proof_term (or a b) = none
change ctx proof_term (imp impl_fst impl_snd) = atom_change ctx proof_term impl_snd impl_fst

-- for i in 0..sequent.unordered_ctx.len() { .. atom_impl_changes.push((i, new_judgment)); }, from i on
unfoldable pub changes : List TypeJudgment → ℕ → List TypeJudgment → List (ℕ × TypeJudgment)
changes ctx i [] = []
changes ctx i (e ∷ es) =
    elim (change ctx e.proof_term e.prop) [
      | none ↦ changes ctx (suc i) es
      | some new_judgment ↦ (i, new_judgment) ∷ changes ctx (suc i) es
    ]

-- for (i, new_judgment) in atom_impl_changes { impl_sequent.unordered_ctx.remove(i); impl_sequent.append_ordered(new_judgment); }
unfoldable pub changed : List (ℕ × TypeJudgment) → Sequent → Sequent
changed [] impl_sequent = impl_sequent
changed (c ∷ cs) impl_sequent = changed cs (append_ordered (remove impl_sequent c.0) c.1)

-- id rule, of an atom and of both quantifications: sequent.find_in_unordered_context_by_prop(sequent.goal)
unfoldable pub id_rule : List TypeJudgment → Form → Option ProofTerm
id_rule ctx top = none
id_rule ctx bot = none
id_rule ctx (leaf k y) = find (leaf k y) ctx
id_rule ctx (and a b) = none
id_rule ctx (or a b) = none
id_rule ctx (imp a b) = none

module _ (forbidden : List (List ℕ)) where
  -- if atom_impl_changes.len() > 0 { atom_impl_changes.reverse(); .. return self.prove_left(impl_sequent); }
  unfoldable pub impl_atom_rule : Call → Sequent → ℕ → List (ℕ × TypeJudgment) → Returned
  impl_atom_rule call sequent idx [] = or_rules forbidden call sequent idx sequent.goal
  impl_atom_rule call sequent idx (c ∷ cs) = call by_left (changed (reverse (c ∷ cs)) sequent) idx

  -- return Some(elem.proof_term.clone()), or the rules after the id rules
  unfoldable pub after_id : Call → Sequent → ℕ → Option ProofTerm → Returned
  after_id call sequent idx (some proof_term) = Some proof_term idx
  after_id call sequent idx none = impl_atom_rule call sequent idx (changes sequent.unordered_ctx 0 sequent.unordered_ctx)

  -- fn search(&mut self, sequent: Sequent): assert!(sequent.ordered_ctx.is_empty(), "Do not search when ordered context is not empty.");
  unfoldable pub search' : Call → Sequent → ℕ → List TypeJudgment → Returned
  search' call sequent idx [] = after_id call sequent idx (id_rule sequent.unordered_ctx sequent.goal)
  search' call sequent idx (e ∷ es) = panicked assertion

  -- one of the three functions
  unfoldable pub body : Call → Judgement → Sequent → ℕ → Returned
  body call by_right sequent idx = prove_right forbidden call sequent idx sequent.goal
  body call by_left sequent idx = prove_left forbidden call sequent idx sequent.ordered_ctx
  body call by_search sequent idx = search' call sequent idx sequent.ordered_ctx

  -- the number bounds the depth of calls
  unfoldable pub called : ℕ → Call
  called zero f sequent idx = unended
  called (suc depth) f sequent idx = body (λ f' sequent' idx'. called depth f' sequent' idx') f sequent idx

-- for assumption in assumptions { .. sequent.append_ordered(assumption); }: of a name and its prop, proof_term: Ident::create(name.clone())
unfoldable pub assumed : List (List ℕ × Form) → Sequent → Sequent
assumed [] sequent = sequent
assumed (a ∷ as') sequent = assumed as' (append_ordered sequent (judgment a.1 (Ident a.0)))

-- pub fn prove_with_assumptions(prop: &Prop, assumptions: Vec<TypeJudgment>) -> Option<ProofTerm>: let mut sequent = Sequent::new(prop); ..
-- forbidden_idents.push(name.clone()); .. prover.prove_right(sequent), the generator new: idx: 0
unfoldable pub prove_with_assumptions : ℕ → Form → List (List ℕ × Form) → Returned
prove_with_assumptions depth prop assumptions =
    called (map (λ (a : List ℕ × Form). a.0) assumptions) depth by_right
    (assumed assumptions (record { unordered_ctx = []; ordered_ctx = []; goal = prop })) 0
