-- Theory's charges under the code's limits. Assumes nothing.
use Rattle.std.specs.Prelude.{Err, Ok}
use Prim.Native.Nat.{ℕ, ◌+◌}
use mathlib.Core.Path.{◌≡◌, refl, sym, ap, ap₂, ◌∙◌, subst}
use mathlib.Core.Bool.{Bool, true, false}
use mathlib.Core.Option.{Option, none, some}
use mathlib.Core.List.{List}
use native.Mathlib.Omega.{arith}
use borrow.Author.Rules.{rules}
use lib.ListN.{length}
use lib.Dec.{leb}
use borrow.Author.Tests.{le-leb, leb-true}
use Rattle.theory.specs.Form.{Book}
use Rattle.theory.specs.Term.{Node}
use Rattle.theory.specs.Meter as M
use Rattle.theory.specs.Meter.{charge, lacking, fits, count}
use Rattle.theory.proofs.Charges.{made}
use Rattle.meter.specs.declared.State.{State}
use Rattle.meter.specs.declared.Limits.{Limits}
use Rattle.meter.specs.declared.Missed.{Missed}
use Rattle.meter.specs.Moves.{most, limits_of}
use Rattle.meter.proofs.Laws.{let_through, Lacks, refused}
use Rattle.context.specs.Moves.{stretch}
use Rattle.search_laws.specs.Reading.{Lent, book, Shows}
use Rattle.search_laws.specs.Meaning.{says_short, Comes}
use Rattle.search_laws.specs.Making.{Passes, Tested}
use Rattle.search_laws.proofs.Tables.{upto_length}
use Rattle.search_laws.proofs.Combine.{comes_now}

pub book_length : (f : List ℕ) (n : ℕ) → length (book f n) ≡ n
unfolding book
book_length f n = upto_length _ n

-- how many words theory's state has
pub words_many : {x : Lent} {s : State} {S : M.State} → Shows x s S → length S.words ≡ s.formulas
words_many {x} {s} sh = ap length sh.words ∙ book_length x.words s.formulas

-- the tests one by one
lack_in : Bool → Bool → Bool → Bool → Bool → Option M.Lack
lack_in a b c d e =
    elim a [
      | false ↦ some M.Names
      | true ↦ elim b [
        | false ↦ some M.Formulas
        | true ↦ elim c [
          | false ↦ some M.Terms
          | true ↦ elim d [
            | false ↦ some M.Contexts
            | true ↦ elim e [ false ↦ some M.Levels | true ↦ none ]
          ]
        ]
      ]
    ]

all_true : (a b c d e : Bool) → lack_in a b c d e ≡ none → (a ≡ true) × (b ≡ true) × (c ≡ true) × (d ≡ true) × (e ≡ true)
unfolding lack_in
all_true false b c d e h = absurd (search rules)
all_true true false c d e h = absurd (search rules)
all_true true true false d e h = absurd (search rules)
all_true true true true false e h = absurd (search rules)
all_true true true true true false h = absurd (search rules)
all_true true true true true true h = (refl, refl, refl, refl, refl)

pub passes : {m : Limits} {s : State} {u f t c l : ℕ} → Tested m (Ok tt) s u f t c l → Passes m u f t c l
unfolding lacking fits lack_in
passes {m} {s} {u} {f} {t} {c} {l} e =
    let h = all_true (leb u most) (leb f m.formulas) (leb t m.terms) (leb c stretch) (leb l m.levels) (let_through s (sym e.is)) in
    record {
      indices = leb-true u most h.0;
      formulas = leb-true f m.formulas h.1;
      terms = leb-true t m.terms h.2;
      contexts = leb-true c stretch h.3;
      levels = leb-true l m.levels h.4;
    }

pub charge_ok : (m : Limits) (u : ℕ) (ws : Book) (ns : List Node) (Q : M.Sequent) (S : M.State) (k : M.State → M.Answer) →
    Passes m u (length S.words + length ws) (length S.nodes + length ns) (count Q) Q.level →
    charge (limits_of m) u ws ns Q S k ≡ k (made S u ws ns)
unfolding charge lacking fits
charge_ok m u ws ns Q S k p =
    rw (
      charge,
      le-leb u most p.indices,
      le-leb (length S.words + length ws) m.formulas p.formulas,
      le-leb (length S.nodes + length ns) m.terms p.terms,
      le-leb (count Q) stretch p.contexts,
      le-leb Q.level m.levels p.levels,
    )

-- a charge that passes a limit is that shortage
pub charge_short : {m : Limits} {x : Lent} {s : State} {S : M.State} (ws : Book) (ns : List Node) (Q : M.Sequent)
    (k : ℕ → M.State → M.Answer) → Shows x s S → {e : Missed} {u f t c l : ℕ} → Tested m (Err e) s u f t c l →
    f ≡ s.formulas + length ws → t ≡ s.terms + length ns → c ≡ count Q → l ≡ Q.level →
    Comes x (Err e) (λ d. charge (limits_of m) u ws ns Q S (k d))
unfolding charge
charge_short {m} {x} {s} {S} ws ns Q k sh {e} {u} {f} {t} {c} {l} tested ef et ec el =
    subst (λ (v : Missed). Comes x (Err v) (λ d. charge (limits_of m) u ws ns Q S (k d))) (sym lacks.says)
    (comes_now (λ d. charge (limits_of m) u ws ns Q S (k d)) (λ d. rw (charge, sym same ∙ lacks.is)) (says_short lacks.lack refl sh.steps))
  where
    lacks : Lacks (lacking (limits_of m) u f t c l) s e
    lacks = refused (sym tested.is)

    same : lacking (limits_of m) u f t c l ≡
        lacking (limits_of m) u (length S.words + length ws) (length S.nodes + length ns) (count Q) Q.level
    same = let a : f ≡ length S.words + length ws = omega (arith, words_many sh) in
        let b : t ≡ length S.nodes + length ns = omega (arith, sh.many) in
        ap₂ (λ (f t : ℕ). lacking (limits_of m) u f t c l) a b
        ∙ ap₂ (λ (c l : ℕ). lacking (limits_of m) u (length S.words + length ws) (length S.nodes + length ns) c l) ec el
