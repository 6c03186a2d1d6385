-- The loop over the assumptions: what is still to be written leads from where the loop is to what the whole of it writes. Assumes nothing.
use Prim.Native.Nat.{ℕ, suc, ◌+◌, ◌≤◌, ◌<◌}
use mathlib.Core.Path.{◌≡◌, refl, sym, ap, ◌∙◌, subst}
use mathlib.Core.List.{List}
use native.Mathlib.Omega.{arith}
use native.Mathlib.Numerals.{add-one}
use lib.ListN.{length, get_or, drop, set, length-set, drop_of_length-le}
use lib.Seq.{drop-cons}
use Rattle.theory.specs.Term.{ident, six_of}
use Rattle.meter.specs.declared.Sequent.{Sequent}
use Rattle.context.specs.Moves.{stretch, pushed}
use Rattle.context.specs.Area.{Rec, rec, push_place}
use Rattle.proof_term.specs.Put.{put_node}
use Rattle.proof_term.proofs.PutLaws.{put_length}
use Rattle.search_laws.specs.Reading.{put_nodes}
use Rattle.call.specs.Start.{idents_from, seated, first_sequent}

module _ (hs : List ℕ) (goal : ℕ) (t₀ : List ℕ) (w₀ : List Rec) where
  -- i assumptions are written in t and w
  pub record Seating (t : List ℕ) (w : List Rec) (q : Sequent) (i : ℕ) : Type 0 where
    pub reached : i ≤ length hs
    pub sequent : q ≡ first_sequent i goal
    pub numbers : put_nodes t i (idents_from i (drop i hs)) ≡ put_nodes t₀ 0 (idents_from 0 hs)
    pub records : seated i (drop i hs) w ≡ seated 0 hs w₀
    pub numbers_long : length t ≡ length t₀
    pub records_long : length w ≡ length w₀

  pub seating_starts : Seating t₀ w₀ (first_sequent 0 goal) 0
  seating_starts = record {
    reached = omega arith;
    sequent = refl;
    numbers = refl;
    records = refl;
    numbers_long = refl;
    records_long = refl;
  }

  module _ {t : List ℕ} {w : List Rec} {q : Sequent} {i : ℕ} (s : Seating t w q i) where
    -- there is room for one more record
    pub seating_free : i < length hs → length hs ≤ 64 → (q.level < 256) × (q.unordered + q.ordered < stretch)
    seating_free h k =
        subst (λ (v : Sequent). (v.level < 256) × (v.unordered + v.ordered < stretch)) (sym s.sequent) (omega arith, omega arith)

    pub seating_goes : {t1 : List ℕ} {w1 : List Rec} {q1 : Sequent} {a : ℕ} → i < length hs → a ≡ get_or hs i 0 →
        t1 ≡ put_node t i (six_of (ident i)) → w1 ≡ set w (push_place q) (rec a i) → q1 ≡ pushed q → Seating t1 w1 q1 (i + 1)
    unfolding put_nodes idents_from seated
    seating_goes {t1} {w1} {q1} {a} h ea et ew eq = subst (Seating t1 w1 q1) (sym (add-one i)) (record {
      reached = h;
      sequent = eq ∙ ap pushed s.sequent ∙ ap (λ (k : ℕ). first_sequent k goal) (add-one i);
      numbers = ap (λ (l : List ℕ). put_nodes l (suc i) (idents_from (suc i) (drop (suc i) hs))) et
          ∙ ap (λ (l : List ℕ). put_nodes t i (idents_from i l)) (sym (drop-cons hs i 0 h)) ∙ s.numbers;
      records = ap (seated (suc i) (drop (suc i) hs)) (ew ∙ ap (λ (v : Sequent). set w (push_place v) (rec a i)) s.sequent
          ∙ ap (λ (b : ℕ). set w (push_place (first_sequent i goal)) (rec b i)) ea)
          ∙ ap (λ (l : List ℕ). seated i l w) (sym (drop-cons hs i 0 h)) ∙ s.records;
      numbers_long = ap length et ∙ put_length t i (six_of (ident i)) ∙ s.numbers_long;
      records_long = ap length ew ∙ length-set w (push_place q) (rec a i) ∙ s.records_long;
    })

    pub seating_ends : length hs ≤ i →
        (q ≡ first_sequent (length hs) goal) × (t ≡ put_nodes t₀ 0 (idents_from 0 hs)) × (w ≡ seated 0 hs w₀)
    unfolding put_nodes idents_from seated
    seating_ends h =
        let e : i ≡ length hs = omega (arith, s.reached) in (
          s.sequent ∙ ap (λ (k : ℕ). first_sequent k goal) e,
          ap (λ (l : List ℕ). put_nodes t i (idents_from i l)) (sym (drop_of_length-le hs h)) ∙ s.numbers,
          ap (λ (l : List ℕ). seated i l w) (sym (drop_of_length-le hs h)) ∙ s.records,
        )
