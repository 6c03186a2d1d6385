-- The place of refusal 4 is that of the first faulty name. Assumes nothing.
use Prim.Native.Nat.{ℕ, zero, suc, ◌+◌, ◌<◌}
use mathlib.Core.Path.{◌≡◌, refl, sym, ap, ◌∙◌, subst}
use mathlib.Core.Bool.{Bool, true, false}
use mathlib.Core.Option.{Option, none, some}
use mathlib.Core.Logic.{◌≢◌}
use mathlib.Core.List.{List, [], ◌∷◌, ◌++◌, append_assoc, append-nil}
use native.Mathlib.Nat.{le_of_suc-le-suc, not-suc-le-zero}
use native.Mathlib.Omega.{arith}
use lib.Dec.{T}
use lib.ListN.{length, get_or, take}
use Rattle.theory.specs.NameText.{cut_entry, names_in, lawful_after, bad_name_from, bad_name}
use Rattle.theory.specs.Places.{after_entries, NameFault, missing, unlawful, surplus, FirstFaulty}
use Rattle.theory.proofs.Tests.{none_some}
use Rattle.theory.proofs.Forms.{snoc_length}
use Rattle.theory.proofs.Entries.{names_next, names_none}

-- what is wrong with name k of the names ns, that come after earlier ones
data Wrong (earlier : List (List ℕ)) (count : ℕ) (text : List ℕ) (ns : List (List ℕ)) (k : ℕ) : Type 0 where
  w_missing : k < count → length ns ≡ k → Wrong earlier count text ns k
  w_unlawful : k < count → k < length ns → lawful_after (earlier ++ take k ns) (get_or ns k []) ≡ false → Wrong earlier count text ns k
  w_surplus : k ≡ count → after_entries count text ≢ [] → Wrong earlier count text ns k

record FaultyFrom (earlier : List (List ℕ)) (count : ℕ) (text : List ℕ) (ns : List (List ℕ)) (i : ℕ) : Type 0 where
  k : ℕ
  is : i ≡ length earlier + k
  fault : Wrong earlier count text ns k
  passed : (j : ℕ) → j < k → (j < length ns) × T (lawful_after (earlier ++ take j ns) (get_or ns j []))

-- a fault at once
at_once : (earlier : List (List ℕ)) (count : ℕ) (text : List ℕ) (ns : List (List ℕ)) (i : ℕ) → length earlier ≡ i →
    Wrong earlier count text ns 0 → FaultyFrom earlier count text ns i
at_once earlier count text ns i p w = record { k = 0; is = omega arith; fault = w; passed = λ j h. absurd (not-suc-le-zero h) }

-- a fault after one more lawful name
module _ (earlier : List (List ℕ)) (count : ℕ) (text rest x : List ℕ) (ns : List (List ℕ)) (i : ℕ) (lawful : T (lawful_after earlier x))
    (after : after_entries (suc count) text ≡ after_entries count rest) where
  wrong_later : (k : ℕ) → Wrong (earlier ++ (x ∷ [])) count rest ns k → Wrong earlier (suc count) text (x ∷ ns) (suc k)
  wrong_later k (w_missing h p) = w_missing (omega arith) (ap suc p)
  wrong_later k (w_unlawful h l p) =
      w_unlawful (omega arith) (omega arith)
      (ap (λ (ms : List (List ℕ)). lawful_after ms (get_or ns k [])) (sym (append_assoc earlier (x ∷ []) (take k ns))) ∙ p)
  wrong_later k (w_surplus p n) = w_surplus (ap suc p) (λ q. n (sym after ∙ q))

  later : FaultyFrom (earlier ++ (x ∷ [])) count rest ns i → FaultyFrom earlier (suc count) text (x ∷ ns) i
  later r = record {
    k = suc r.k;
    is = omega (arith, r.is, snoc_length earlier x);
    fault = wrong_later r.k r.fault;
    passed = passed;
  }
    where
      passed : (j : ℕ) → j < suc r.k → (j < length (x ∷ ns)) × T (lawful_after (earlier ++ take j (x ∷ ns)) (get_or (x ∷ ns) j []))
      passed zero h = (omega arith, subst (λ (ms : List (List ℕ)). T (lawful_after ms x)) (sym (append-nil earlier)) lawful)
      passed (suc j) h =
          let q = r.passed j (le_of_suc-le-suc h) in (
            omega (arith, q.0),
            subst (λ (ms : List (List ℕ)). T (lawful_after ms (get_or ns j []))) (append_assoc earlier (x ∷ []) (take j ns)) q.1,
          )

entries_next : (text : List ℕ) (count : ℕ) (p : List ℕ × List ℕ) → cut_entry text ≡ some p →
    after_entries (suc count) text ≡ after_entries count p.1
unfolding after_entries
entries_next text count p e =
    ap (λ (o : Option (List ℕ × List ℕ)). elim o as (λ y. List ℕ) [ none ↦ [] | some q ↦ after_entries count q.1 ]) e

faulty_from : (earlier : List (List ℕ)) (count : ℕ) (text : List ℕ) (i : ℕ) → bad_name_from earlier count text ≡ some i →
    FaultyFrom earlier count text (names_in text) i
unfolding bad_name_from after_entries
faulty_from earlier zero [] i e = absurd (none_some e)
faulty_from earlier zero (b ∷ bs) i e =
    at_once earlier 0 (b ∷ bs) (names_in (b ∷ bs)) i (let q : length earlier ≡ i = cc in q)
    (w_surplus refl (λ q. absurd (let z : ◌≡◌ {A = ℕ} 0 1 = cc in omega arith)))
faulty_from earlier (suc count) text i e = cut (cut_entry text) refl e (λ p. faulty_from (earlier ++ (p.0 ∷ [])) count p.1 i)
  where
    Ih : Type 0
    Ih = (p : List ℕ × List ℕ) → bad_name_from (earlier ++ (p.0 ∷ [])) count p.1 ≡ some i →
        FaultyFrom (earlier ++ (p.0 ∷ [])) count p.1 (names_in p.1) i

    test : (p : List ℕ × List ℕ) → cut_entry text ≡ some p → Ih → (b : Bool) → lawful_after earlier p.0 ≡ b →
        ◌≡◌ {A = Option ℕ} (elim b [ true ↦ bad_name_from (earlier ++ (p.0 ∷ [])) count p.1 | false ↦ some (length earlier) ]) (some i) →
        FaultyFrom earlier (suc count) text (p.0 ∷ names_in p.1) i
    test p q ih true l e =
        later earlier count text p.1 p.0 (names_in p.1) i (subst T (sym l) tt) (entries_next text count p q) (ih p e)
    test p q ih false l e =
        at_once earlier (suc count) text (p.0 ∷ names_in p.1) i (let r : length earlier ≡ i = cc in r)
        (w_unlawful (omega arith) (omega arith) (ap (λ (ms : List (List ℕ)). lawful_after ms p.0) (append-nil earlier) ∙ l))

    cut : (o : Option (List ℕ × List ℕ)) → cut_entry text ≡ o → ◌≡◌ {A = Option ℕ} (elim o [
      | none ↦ some (length earlier)
      | some p ↦ elim (lawful_after earlier p.0) [
        | true ↦ bad_name_from (earlier ++ (p.0 ∷ [])) count p.1
        | false ↦ some (length earlier)
      ]
    ]) (some i) → Ih → FaultyFrom earlier (suc count) text (names_in text) i
    cut none q e ih =
        at_once earlier (suc count) text (names_in text) i (let r : length earlier ≡ i = cc in r)
        (w_missing (omega arith) (ap length (names_none text q)))
    cut (some p) q e ih =
        subst (λ (ns : List (List ℕ)). FaultyFrom earlier (suc count) text ns i) (sym (names_next text p q))
        (test p q ih (lawful_after earlier p.0) refl e)

-- 4 names the first faulty name, or the count where text is left after the last name
pub first_name : (count : ℕ) (text : List ℕ) (i : ℕ) → bad_name count text ≡ some i → FirstFaulty count text i
unfolding bad_name
first_name count text i e =
    let r = faulty_from [] count text i e in
    let p : r.k ≡ i = omega (arith, r.is) in
    subst (FirstFaulty count text) p (record { fault = turned r.k r.fault; before = r.passed })
  where
    turned : (k : ℕ) → Wrong [] count text (names_in text) k → NameFault count text k
    turned k (w_missing h p) = missing h p
    turned k (w_unlawful h l p) = unlawful h l p
    turned k (w_surplus p n) = surplus p n
