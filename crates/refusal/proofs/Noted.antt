-- A table of marks after the words before a word: it tells under which kinds a symbol may still stand. Assumes nothing.
use Prim.Native.Nat.{ℕ, ◌+◌, ◌*◌, ◌^◌, ◌≤◌, ◌<◌}
use mathlib.Core.Path.{◌≡◌, refl, sym, ap, ap₂, ◌∙◌, subst}
use mathlib.Core.Bool.{Bool, true, false, not, ◌&&◌, ◌||◌, or-false, or_self, or_assoc, not-not}
use mathlib.Core.Logic.{◌≢◌, ◌⊎◌, inl, inr}
use mathlib.Core.List.{List, [], ◌∷◌, ◌++◌}
use native.Mathlib.Omega.{arith}
use native.Mathlib.Decide.{dec_lt}
use native.Mathlib.Nat.{zero-div}
use native.Mathlib.Numerals.{add-one}
use borrow.Author.Tests.{eqb-true, eqb-false}
use lib.Dec.{T, eqb}
use lib.ListN.{length, get_or, set, take, replicate, length-set, length-replicate, get_or-replicate}
use lib.Seq.{take-suc, length-take-le, get_or-set_same, get_or-set_other}
use Rattle.theory.specs.Form.{Shape, is_top, is_bot, is_leaf, is_and, is_or, is_imp, kind_of, left_of, right_of, shape}
use Rattle.theory.specs.Form.{laid_out, other_kind, stands_otherwise, clashes, good_word}
use Rattle.theory.specs.WellFormed.{LeafKind, atom, for_all, exists}
use Rattle.theory.proofs.Words.{Plain, plain_other, plain_clashes}
use Rattle.formula.specs.Kinds.{kind_named}
use Rattle.formula.specs.Leaves.{leaf_kind}
use Rattle.formula.proofs.LeafWords.{is_leaf_kind, leaf_kinds, leaf_of_laid}
use Rattle.refusal.specs.Marks.{mark_of, bits_at, byte_of, shift_of, mark_at, marked, follows, agrees, noted}
use Rattle.refusal.proofs.Walks.{onward_starts, onward_ends, onward_bad, onward_good, given}
use Rattle.refusal.proofs.MarkBits.{put_here, put_beside}
use Rattle.refusal.proofs.MarkLaws.{mark_small, no_leaf, of_leaf, first_time, stood_before}

-- a mark that was put is read, and those of the other symbols stay
module _ (ms : List ℕ) (s m : ℕ) (long : length ms ≡ 4096) (h : s < 16384) (free : mark_at ms s ≡ 0) (small : m < 4) where
  put : ℕ
  put = get_or ms (byte_of s) 0 + m * 2 ^ shift_of s

  pub mark_put : mark_at (marked ms s m) s ≡ m
  unfolding mark_at marked put
  mark_put =
      rw (get_or-set_same ms (byte_of s) put 0 (omega arith))
      (put_here (get_or ms (byte_of s) 0) m small (shift_of s) free)

  -- two symbols that share a byte stand at two places in it
  beside : (s' : ℕ) → s' < 16384 → s' ≢ s → byte_of s' ≡ byte_of s → bits_at (shift_of s') put ≡ bits_at (shift_of s')
      (get_or ms (byte_of s) 0)
  unfolding mark_at put
  beside s' h' n e = put_beside (get_or ms (byte_of s) 0) m small (shift_of s) free (shift_of s') (go (dec_lt s s') (dec_lt s' s))
    where
      go : Dec (s < s') → Dec (s' < s) → (shift_of s + 2 ≤ shift_of s') ⊎ (shift_of s' + 2 ≤ shift_of s)
      go (yes l) d = inl (omega arith)
      go (no l) (yes l') = inr (omega arith)
      go (no l) (no l') = absurd (n (omega arith))

  pub mark_kept : (s' : ℕ) → s' < 16384 → s' ≢ s → mark_at (marked ms s m) s' ≡ mark_at ms s'
  unfolding mark_at marked put
  mark_kept s' h' n = go (eqb (byte_of s') (byte_of s)) refl
    where
      go : (b : Bool) → eqb (byte_of s') (byte_of s) ≡ b →
          bits_at (shift_of s') (get_or (set ms (byte_of s) put) (byte_of s') 0) ≡ bits_at (shift_of s') (get_or ms (byte_of s') 0)
      go false e = ap (bits_at (shift_of s')) (get_or-set_other ms (byte_of s) (byte_of s') put 0 (eqb-false _ _ e))
      go true e =
          let q : byte_of s' ≡ byte_of s = eqb-true _ _ e in
          rw (q, get_or-set_same ms (byte_of s) put 0 (omega arith)) (beside s' h' n q)

marked_long : (ms : List ℕ) (s m : ℕ) → length ms ≡ 4096 → length (marked ms s m) ≡ 4096
unfolding marked
marked_long ms s m e = length-set ms (byte_of s) _ ∙ e

-- the marks of words: a leaf kind that may follow on a symbol's mark is one under which the symbol does not stand otherwise
pub record Noted (ms before : List ℕ) : Type 0 where
  pub long : length ms ≡ 4096
  pub tells : {k : ℕ} (s : ℕ) → LeafKind k → s < 16384 → stands_otherwise k s before ≡ not (follows (mark_at ms s) k)

-- no word, no mark
no_mark : (s : ℕ) → mark_at (replicate 4096 0) s ≡ 0
unfolding mark_at
no_mark s =
    let byte : get_or {A = ℕ} (replicate 4096 0) (byte_of s) 0 ≡ 0 = get_or-replicate {A = ℕ} 4096 (byte_of s) 0 0 (omega arith) in
    rw (byte, zero-div (2 ^ shift_of s))

pub none_noted : Noted (replicate 4096 0) []
unfolding stands_otherwise
none_noted = record {
  long = length-replicate {A = ℕ} 4096 0;
  tells = λ {k} s leaf h. sym (ap (λ (m : ℕ). not (follows m k)) (no_mark s));
}

-- one word more
stands_snoc : (k s : ℕ) (before : List ℕ) (w : ℕ) →
    stands_otherwise k s (before ++ (w ∷ [])) ≡ (stands_otherwise k s before || other_kind k s (shape w))
unfolding stands_otherwise
stands_snoc k s [] w = or-false _
stands_snoc k s (v ∷ before) w =
    ap (λ (b : Bool). other_kind k s (shape v) || b) (stands_snoc k s before w)
    ∙ sym (or_assoc (other_kind k s (shape v)) (stands_otherwise k s before) (other_kind k s (shape w)))

-- the kinds that may follow on a leaf's symbol after it: its own
after_first_lem : {k k₀ : ℕ} → LeafKind k → LeafKind k₀ → not (eqb k k₀) ≡ not (follows (mark_of (kind_named k₀)) k)
unfolding kind_named
after_first_lem atom atom = refl
after_first_lem atom for_all = refl
after_first_lem atom exists = refl
after_first_lem for_all atom = refl
after_first_lem for_all for_all = refl
after_first_lem for_all exists = refl
after_first_lem exists atom = refl
after_first_lem exists for_all = refl
after_first_lem exists exists = refl

-- a word that is no leaf's
module _ (i w : ℕ) (laid : T (laid_out i w)) (other : leaf_kind (kind_of w) ≡ false) where
  not_a_leaf : (k s : ℕ) → shape w ≢ is_leaf k s
  not_a_leaf k s e = absurd (subst T (sym (leaf_of_laid i w k s laid e) ∙ other) tt)

  plain_word : (u : Shape) → shape w ≡ u → Plain u
  plain_word is_top e = tt
  plain_word is_bot e = tt
  plain_word (is_leaf k s) e = not_a_leaf k s e
  plain_word (is_and l r) e = tt
  plain_word (is_or l r) e = tt
  plain_word (is_imp l r) e = tt

-- what may follow on a symbol's mark before and after a leaf that may
absorbed : (m k k₀ : ℕ) → follows m k₀ ≡ true →
    (not (follows m k) || not (follows (mark_of (kind_named k₀)) k)) ≡ not (follows (mark_of (kind_named k₀)) k)
absorbed m k k₀ e = go (eqb m 0) (eqb m (mark_of (kind_named k₀))) refl refl e
  where
    go : (a b : Bool) → eqb m 0 ≡ a → eqb m (mark_of (kind_named k₀)) ≡ b → (a || b) ≡ true →
        (not (follows m k) || not (follows (mark_of (kind_named k₀)) k)) ≡ not (follows (mark_of (kind_named k₀)) k)
    go true b p q e = ap (λ (n : ℕ). not (follows n k) || not (follows (mark_of (kind_named k₀)) k)) (eqb-true m 0 p)
    go false true p q e =
        ap (λ (n : ℕ). not (follows n k) || not (follows (mark_of (kind_named k₀)) k)) (eqb-true m (mark_of (kind_named k₀)) q) ∙ or_self
        (not (follows (mark_of (kind_named k₀)) k))
    go false false p q e = absurd (subst T (sym e) tt)

module _ (ms before : List ℕ) (i w : ℕ) (known : Noted ms before) where
  -- a leaf word whose symbol has its kind's mark after it, the others keeping theirs
  module _ (leaf : leaf_kind (kind_of w) ≡ true) (may : follows (mark_at ms (left_of w)) (kind_of w) ≡ true) where
    is_leaf_lem : shape w ≡ is_leaf (kind_of w) (left_of w)
    unfolding shape
    is_leaf_lem = leaf_kinds (kind_of w) leaf (left_of w) (right_of w)

    one_more : (ms' : List ℕ) → length ms' ≡ 4096 → mark_at ms' (left_of w) ≡ mark_of (kind_named (kind_of w)) →
        ((s : ℕ) → s < 16384 → s ≢ left_of w → mark_at ms' s ≡ mark_at ms s) → Noted ms' (before ++ (w ∷ []))
    unfolding other_kind
    one_more ms' long own kept = record {
      long = long;
      tells = λ {k} s kind h. stands_snoc k s before w
          ∙ ap₂ ◌||◌ (known.tells s kind h) (ap (other_kind k s) is_leaf_lem) ∙ go k s kind h (eqb s (left_of w)) refl;
    }
      where
        go : (k s : ℕ) → LeafKind k → s < 16384 → (b : Bool) → eqb s (left_of w) ≡ b →
            (not (follows (mark_at ms s) k) || (b && not (eqb k (kind_of w)))) ≡ not (follows (mark_at ms' s) k)
        go k s kind h false e = or-false _ ∙ ap (λ (m : ℕ). not (follows m k)) (sym (kept s h (eqb-false _ _ e)))
        go k s kind h true e =
            let q : s ≡ left_of w = eqb-true _ _ e in
            ap₂ (λ (n : ℕ) (b : Bool). not (follows (mark_at ms n) k) || b) q (after_first_lem kind (is_leaf_kind (kind_of w) leaf))
            ∙ absorbed (mark_at ms (left_of w)) k (kind_of w) may
            ∙ ap (λ (m : ℕ). not (follows m k)) (sym (ap (mark_at ms') q ∙ own))

  module _ (laid : T (laid_out i w)) where
    -- a word agrees with the marks if it does not clash with the words before it
    pub agrees_is : agrees ms w ≡ not (clashes before (shape w))
    unfolding clashes shape
    agrees_is = go (leaf_kind (kind_of w)) refl
      where
        go : (b : Bool) → leaf_kind (kind_of w) ≡ b → agrees ms w ≡ not (clashes before (shape w))
        go false e = sym (no_leaf ms w e).0 ∙ sym (ap not (plain_clashes before (shape w) (plain_word i w laid e (shape w) refl)))
        go true e =
            of_leaf ms w e ∙ sym (not-not _) ∙ ap not (sym (known.tells (left_of w) (is_leaf_kind (kind_of w) e) (omega arith)))
            ∙ ap (λ (u : Shape). not (clashes before u)) (sym (leaf_kinds (kind_of w) e (left_of w) (right_of w)))

    -- and after a word that agrees the marks are those of one word more
    pub noted_next : agrees ms w ≡ true → Noted (noted ms w) (before ++ (w ∷ []))
    noted_next agreed = go (leaf_kind (kind_of w)) refl
      where
        stood : leaf_kind (kind_of w) ≡ true → (b : Bool) → eqb (mark_at ms (left_of w)) 0 ≡ b → Noted (noted ms w) (before ++ (w ∷ []))
        stood e true z =
            let free : mark_at ms (left_of w) ≡ 0 = eqb-true _ 0 z in
            let small : mark_of (kind_named (kind_of w)) < 4 = mark_small (kind_named (kind_of w)) in
            subst (λ (m : List ℕ). Noted m (before ++ (w ∷ []))) (first_time ms w e free).1
            (one_more e (sym (of_leaf ms w e) ∙ agreed) (marked ms (left_of w) (mark_of (kind_named (kind_of w))))
            (marked_long ms (left_of w) (mark_of (kind_named (kind_of w))) known.long)
            (mark_put ms (left_of w) (mark_of (kind_named (kind_of w))) known.long (omega arith) free small)
            (mark_kept ms (left_of w) (mark_of (kind_named (kind_of w))) known.long (omega arith) free small))
        stood e false z =
            let r = stood_before ms w e (eqb-false _ 0 z) in
            subst (λ (m : List ℕ). Noted m (before ++ (w ∷ []))) r.1
            (one_more e (sym (of_leaf ms w e) ∙ agreed) ms known.long (eqb-true _ _ (r.0 ∙ agreed)) (λ s h n. refl))

        go : (b : Bool) → leaf_kind (kind_of w) ≡ b → Noted (noted ms w) (before ++ (w ∷ []))
        go true e = stood e (eqb (mark_at ms (left_of w)) 0) refl
        go false e =
            subst (λ (m : List ℕ). Noted m (before ++ (w ∷ []))) (no_leaf ms w e).1 record {
              long = known.long;
              tells = λ {k} s kind h. stands_snoc k s before w
                  ∙ ap₂ ◌||◌ (known.tells s kind h) (plain_other k s (shape w) (plain_word i w laid e (shape w) refl)) ∙ or-false _;
            }

-- the word at index i of a list, held against the marks of those before it
module _ (f : List ℕ) (i : ℕ) (inside : i < length f) where
  index : length (take i f) ≡ i
  index = length-take-le i f (omega arith)

  -- 2 refuses a word that is not laid out
  pub broken : laid_out i (get_or f i 0) ≡ false → good_word (take i f) (get_or f i 0) ≡ false
  unfolding good_word
  broken e = rw (index, e)

  module _ {ms : List ℕ} (known : Noted ms (take i f)) (laid : laid_out i (get_or f i 0) ≡ true) where
    -- and of those that are laid out, one that does not agree
    pub decides : {b : Bool} → agrees ms (get_or f i 0) ≡ b → good_word (take i f) (get_or f i 0) ≡ b
    unfolding good_word
    decides e = rw (index, laid) (sym (agrees_is ms (take i f) i (get_or f i 0) known (subst T (sym laid) tt)) ∙ e)

    pub goes_on : agrees ms (get_or f i 0) ≡ true → Noted (noted ms (get_or f i 0)) (take (i + 1) f)
    goes_on e =
        subst (Noted (noted ms (get_or f i 0))) (sym (ap (λ (n : ℕ). take n f) (add-one i) ∙ take-suc f i 0 inside))
        (noted_next ms (take i f) i (get_or f i 0) known (subst T (sym laid) tt) e)

-- what the check goes by in the walk over the words
pub ruleset word_steps = (onward_starts, onward_ends, onward_bad, onward_good, given, none_noted, broken, decides, goes_on)
