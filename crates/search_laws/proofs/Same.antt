-- Lists that agree in their first elements, and what a call leaves alone. Assumes nothing.
use Prim.Native.Nat.{ℕ, ◌+◌, ◌-◌, ◌*◌, ◌≤◌, ◌<◌, min}
use mathlib.Core.Path.{◌≡◌, refl, sym, ap, ◌∙◌, subst}
use mathlib.Core.List.{List}
use native.Mathlib.Omega.{arith}
use native.Mathlib.Nat.{min-le_left}
use lib.ListN.{length, get_or, set, take, length-set, length-take}
use lib.Seq.{get_or-set_other, get_or-take, ext_get_or}
use lib.Dec.{T}
use Rattle.theory.specs.Form.{shape, good_word}
use Rattle.theory.specs.Meter as M
use Rattle.meter.specs.declared.Sequent.{Sequent}
use Rattle.meter.specs.declared.Limits.{Limits}
use Rattle.context.specs.Moves.{stretch}
use Rattle.theory.specs.Search.{entry}
use Rattle.context.specs.Area.{Rec, zeroed}
use Rattle.search_laws.specs.Reading.{Lent, shape_at, book, entry_at, unordered_in, ordered_in}
use Rattle.search_laws.specs.Keeping.{Same, Laid, Rooms, Inside, Seats, Frame}
use Rattle.search_laws.proofs.Tables.{upto_ext, downto_ext}

module _ {A : Type 0} {d : A} {n : ℕ} where
  pub same_refl : {xs : List A} → Same d n xs xs
  same_refl = record { long = refl; at = λ i h. refl }

  pub same_trans : {xs ys zs : List A} → Same d n xs ys → Same d n ys zs → Same d n xs zs
  same_trans a b = record { long = b.long ∙ a.long; at = λ i h. b.at i h ∙ a.at i h }

  pub same_less : {xs ys : List A} {k : ℕ} → k ≤ n → Same d n xs ys → Same d k xs ys
  same_less h a = record { long = a.long; at = λ i l. a.at i (omega arith) }

  -- a store at n or above
  pub same_set : (xs : List A) (i : ℕ) (a : A) → n ≤ i → Same d n xs (set xs i a)
  same_set xs i a h = record { long = length-set xs i a; at = λ j l. get_or-set_other xs i j a d (omega arith) }

pub book_same : {f f1 : List ℕ} {n : ℕ} → Same 0 n f f1 → book f1 n ≡ book f n
unfolding book shape_at
book_same {f} {f1} {n} a = upto_ext n (λ i h. ap shape (a.at i h))

pub take_same : {t t1 : List ℕ} {n : ℕ} → Same 0 n t t1 → take n t1 ≡ take n t
take_same {t} {t1} {n} a =
    ext_get_or 0 (take n t1) (take n t) (length-take n t1 ∙ ap (min n) a.long ∙ sym (length-take n t))
    (λ i h. let k : i < n = omega (arith, length-take n t1, min-le_left n (length t1)) in
    get_or-take n t1 i 0 k ∙ a.at i k ∙ sym (get_or-take n t i 0 k))

pub laid_same : {f f1 : List ℕ} {n : ℕ} → Same 0 n f f1 → Laid f n → Laid f1 n
laid_same {f} {f1} {n} a ly i h =
    subst (λ (x : ℕ). T (good_word (take i f1) x)) (sym (a.at i h))
    (subst (λ (b : List ℕ). T (good_word b (get_or f i 0))) (sym (take_same {n = i} (same_less (omega arith) a))) (ly i h))

-- equal records are read as equal entries
pub entry_by : (w w1 : List Rec) (i j : ℕ) → get_or w1 j zeroed ≡ get_or w i zeroed → entry_at w1 j ≡ entry_at w i
unfolding entry_at entry
entry_by w w1 i j e = ap (λ (r : Rec). entry r.formula r.term) e

pub unordered_same : (w w1 : List Rec) (l n : ℕ) →
    ((i : ℕ) → i < n → get_or w1 (l * stretch + i) zeroed ≡ get_or w (l * stretch + i) zeroed) → unordered_in w1 l n ≡ unordered_in w l n
unfolding unordered_in
unordered_same w w1 l n e = upto_ext n (λ i h. entry_by w w1 _ _ (e i h))

pub ordered_same : (w w1 : List Rec) (l n : ℕ) →
    ((i : ℕ) → i < n → get_or w1 (l * stretch + stretch - 1 - i) zeroed ≡ get_or w (l * stretch + stretch - 1 - i) zeroed) →
    ordered_in w1 l n ≡ ordered_in w l n
unfolding ordered_in
ordered_same w w1 l n e = downto_ext n (λ i h. entry_by w w1 _ _ (e i h))

pub frame_refl : {x : Lent} {nf nt l : ℕ} → Frame x nf nt l x
frame_refl = record { words = same_refl; numbers = same_refl; records = same_refl }

-- lower fills and a lower level are kept too
pub frame_less : {x y : Lent} {nf nt l nf0 nt0 l0 : ℕ} → nf0 ≤ nf → nt0 ≤ nt → l0 ≤ l → Frame x nf nt l y → Frame x nf0 nt0 l0 y
frame_less a b c f = record {
  words = same_less a f.words;
  numbers = same_less (omega arith) f.numbers;
  records = same_less (omega arith) f.records;
}

pub frame_trans : {x y z : Lent} {nf nt l nf1 nt1 l1 : ℕ} → nf ≤ nf1 → nt ≤ nt1 → l ≤ l1 → Frame x nf nt l y → Frame y nf1 nt1 l1 z →
    Frame x nf nt l z
frame_trans a b c f g = let h = frame_less a b c g in record {
  words = same_trans f.words h.words;
  numbers = same_trans f.numbers h.numbers;
  records = same_trans f.records h.records;
}

pub rooms_after : {m : Limits} {x y : Lent} {nf nt l : ℕ} → Frame x nf nt l y → Rooms m x → Rooms m y
rooms_after f r = record {
  most_steps = r.most_steps;
  most_formulas = r.most_formulas;
  most_terms = r.most_terms;
  most_levels = r.most_levels;
  most_records = omega (arith, r.most_records, f.records.long);
  words_room = omega (arith, r.words_room, f.words.long);
  numbers_room = omega (arith, r.numbers_room, f.numbers.long);
  records_room = omega (arith, r.records_room, f.records.long);
}

pub inside_same : {nf nt : ℕ} {w w1 : List Rec} {i j : ℕ} → get_or w1 j zeroed ≡ get_or w i zeroed → Inside nf nt w i → Inside nf nt w1 j
inside_same {nf} {nt} e x = record {
  formula_in = subst (λ (r : Rec). r.formula < nf) (sym e) x.formula_in;
  term_in = subst (λ (r : Rec). r.term < nt) (sym e) x.term_in;
}

-- a sequent whose stretch was left alone is still there
pub seats_same : {m : Limits} {nf nt : ℕ} {w w1 : List Rec} {q : Sequent} {us os : List M.Entry} {l : ℕ} → Same zeroed (l * stretch) w w1 →
    q.level < l → Seats m nf nt w q us os → Seats m nf nt w1 q us os
seats_same {w = w} {w1 = w1} {q = q} {l = l} a h x = record {
  level_in = x.level_in;
  fits = x.fits;
  goal_in = x.goal_in;
  unordered_inside = λ i k. inside_same (a.at (q.level * stretch + i) (omega (arith, x.fits))) (x.unordered_inside i k);
  ordered_inside = λ i k. inside_same (a.at (q.level * stretch + stretch - 1 - i) (omega (arith, x.fits))) (x.ordered_inside i k);
  unordered_is = unordered_same w w1 q.level q.unordered (λ i k. a.at (q.level * stretch + i) (omega (arith, x.fits)))
      ∙ x.unordered_is;
  ordered_is = ordered_same w w1 q.level q.ordered (λ i k. a.at (q.level * stretch + stretch - 1 - i) (omega (arith, x.fits)))
      ∙ x.ordered_is;
}
