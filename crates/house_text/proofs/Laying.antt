-- Laws of laying pieces into a buffer: a byte, nothing, a piece that has no room, and one piece behind another. Assumes nothing.
use Prim.Native.Nat.{ℕ, ◌+◌, ◌/◌, ◌%◌, ◌≤◌, ◌<◌}
use mathlib.Core.Path.{◌≡◌, refl, sym, ap, ap₂, subst, ◌∙◌}
use mathlib.Core.Logic.{◌⊎◌, inr}
use mathlib.Core.Bool.{Bool, true, false}
use mathlib.Core.Option.{Option, none, some}
use mathlib.Core.List.{List, [], ◌∷◌, ◌++◌, append_assoc, append-nil}
use native.Mathlib.Numerals.{add-one}
use native.Mathlib.Omega.{arith}
use borrow.Author.Tests.{le-leb, lt-leb, leb-true, leb-false}
use lib.Dec.{leb}
use lib.ListN.{length, get_or, take, drop, set, take-append-drop, length-append, length-set}
use lib.Seq.{length-take-le, take_all, take-suc, take-suc-set}
use Rattle.theory.specs.Text.{decimal}
use Rattle.theory.proofs.TextWriting.{decimal_one, decimal_last}
use Rattle.house_text.specs.Laid.{joined, within, front_of, InRoom, Laid}
use Rattle.std.proofs.Common.{Some, None}
use Rattle.std.proofs.Common as std

abbrev Text : Type 0
Text = Option (List ℕ)

-- the front of a buffer, by the two sides of its test
pub front_at : (b : List ℕ) (at : ℕ) → at ≤ length b → front_of b at ≡ some (take at b)
unfolding front_of
front_at b at h = rw (le-leb at (length b) h, front_of)

no_front : (b : List ℕ) (at : ℕ) → length b < at → front_of b at ≡ none
unfolding front_of
no_front b at h = rw (lt-leb at (length b) h, front_of)

pub within_room : (room : ℕ) (x : List ℕ) → length x ≤ room → within room (some x) ≡ some x
unfolding within
within_room room x h = rw (le-leb (length x) room h, within)

pub without_room : (room : ℕ) (x : List ℕ) → room < length x → within room (some x) ≡ none
unfolding within
without_room room x h = rw (lt-leb (length x) room h, within)

pub joined_none : (a : Text) → joined a none ≡ none
unfolding joined
joined_none none = refl
joined_none (some x) = refl

pub joined_nil : (a : Text) → joined a (some []) ≡ a
unfolding joined
joined_nil none = refl
joined_nil (some x) = ap {B = Text} some (append-nil x)

pub joined_assoc : (a b c : Text) → joined (joined a b) c ≡ joined a (joined b c)
unfolding joined
joined_assoc none b c = refl
joined_assoc (some x) none c = refl
joined_assoc (some x) (some y) none = refl
joined_assoc (some x) (some y) (some z) = ap {B = Text} some (append_assoc x y z)

-- a text that is too long stays too long
within_longer : (room : ℕ) (a q : Text) → within room (joined (within room a) q) ≡ within room (joined a q)
unfolding within joined
within_longer room none q = refl
within_longer room (some x) none = ap (within room) (joined_none (within room (some x)))
within_longer room (some x) (some y) = go (leb (length x) room) refl
  where
    go : (t : Bool) → leb (length x) room ≡ t →
        within room (joined (elim t as (λ c. Text) [ true ↦ some x | false ↦ none ]) (some y)) ≡ within room (some (x ++ y))
    go true e = refl
    go false e =
        sym (without_room room (x ++ y) (omega (arith, leb-false (length x) room e, length-append x y)))

front_within : (b : List ℕ) (at : ℕ) → within (length b) (front_of b at) ≡ front_of b at
unfolding front_of within
front_within b at = go (leb at (length b)) refl
  where
    go : (t : Bool) → leb at (length b) ≡ t →
        within (length b) (elim t as (λ c. Text) [ true ↦ some (take at b) | false ↦ none ]) ≡
        elim t as (λ c. Text) [ true ↦ some (take at b) | false ↦ none ]
    go true e = within_room (length b) (take at b) (omega (arith, leb-true at (length b) e, length-take-le at b (leb-true at (length b) e)))
    go false e = refl

pub laid_as : {p q : Text} {b b₁ : List ℕ} {at : ℕ} {r : std.Option ℕ} → p ≡ q → Laid p b at b₁ r → Laid q b at b₁ r
laid_as {p} {q} {b} {b₁} {at} {r} e g = subst (λ (x : Text). Laid x b at b₁ r) e g

-- nothing stands in front of place 0
pub joined_front : (b : List ℕ) (p : Text) → joined (front_of b 0) p ≡ p
unfolding joined
joined_front b none = joined_none (front_of b 0)
joined_front b (some x) = ap (λ (s : Text). joined s (some x)) (front_at b 0 (omega arith))

-- no piece
pub laid_nothing : (b : List ℕ) (at : ℕ) → Laid (some []) b at b (Some at)
laid_nothing b at = record {
  long = refl;
  front = sym (ap (within (length b)) (joined_nil (front_of b at)) ∙ front_within b at);
  inside = λ h. h;
}

-- one piece behind another
pub laid_then : {p q : Text} {b b₁ b₂ : List ℕ} {at at₁ : ℕ} {r : std.Option ℕ} → Laid p b at b₁ (Some at₁) → Laid q b₁ at₁ b₂ r →
    Laid (joined p q) b at b₂ r
laid_then {p} {q} {b} {b₁} {b₂} {at} {at₁} {r} x y = record {
  long = y.long ∙ x.long;
  front =
      y.front ∙ ap₂ (λ (n : ℕ) (s : Text). within n (joined s q)) x.long x.front
      ∙ within_longer (length b) (joined (front_of b at) p) q
      ∙ ap (within (length b)) (joined_assoc (front_of b at) p q);
  inside = λ h. in_room r (y.inside (omega (arith, x.inside h, x.long)));
}
  where
    in_room : (o : std.Option ℕ) → InRoom b₁ o → InRoom b o
    in_room None h = tt
    in_room (Some n) h = omega (arith, x.long)

-- where a piece has no room, what is behind it has none
pub laid_stops : {p : Text} {b b₁ : List ℕ} {at : ℕ} → Laid p b at b₁ None → (q : Text) → Laid (joined p q) b at b₁ None
unfolding joined within
laid_stops {p} {b} {b₁} {at} x q = record {
  long = x.long;
  front =
      ap (λ (s : Text). within (length b) (joined s q)) x.front
      ∙ within_longer (length b) (joined (front_of b at) p) q
      ∙ ap (within (length b)) (joined_assoc (front_of b at) p q);
  inside = λ h. tt;
}

-- a text that can't be written
pub laid_none : (b : List ℕ) (at : ℕ) → Laid none b at b None
unfolding within
laid_none b at = record {
  long = refl;
  front = sym (ap (within (length b)) (joined_none (front_of b at)));
  inside = λ h. tt;
}

-- a text that has no room
pub laid_no_room : (x b : List ℕ) (at : ℕ) → (length b < at) ⊎ (length b < at + length x) → Laid (some x) b at b None
unfolding joined within
laid_no_room x b at h = record { long = refl; front = sym (ends (leb at (length b)) refl h); inside = λ h. tt }
  where
    ends : (t : Bool) → leb at (length b) ≡ t → (length b < at) ⊎ (length b < at + length x) →
        within (length b) (joined (front_of b at) (some x)) ≡ none
    ends true e h =
        let end : at ≤ length b = leb-true at (length b) e in
        let part : length (take at b) ≡ at = length-take-le at b end in
        ap (λ (s : Text). within (length b) (joined s (some x))) (front_at b at end)
        ∙ without_room (length b) (take at b ++ x) (omega (arith, h, length-append (take at b) x))
    ends false e h = ap (λ (s : Text). within (length b) (joined s (some x))) (no_front b at (leb-false at (length b) e))

-- a text that has room, copied to its place
pub laid_text : (x b b₁ : List ℕ) (at : ℕ) → at + length x ≤ length b → length b₁ ≡ length b → take (at + length x) b₁ ≡ take at b ++ x →
    Laid (some x) b at b₁ (Some (at + length x))
unfolding joined
laid_text x b b₁ at h l e =
    let part : length (take at b) ≡ at = length-take-le at b (omega arith) in
    record {
      long = l;
      front =
          front_at b₁ (at + length x) (omega arith)
          ∙ ap {B = Text} some e
          ∙ sym (within_room (length b) (take at b ++ x) (omega (arith, length-append (take at b) x)))
          ∙ sym (ap (λ (s : Text). within (length b) (joined s (some x))) (front_at b at (omega arith)));
      inside = λ k. h;
    }

module _ (b : List ℕ) (at x : ℕ) where
  -- a byte that has room
  pub laid_byte : at < length b → Laid (some (x ∷ [])) b at (set b at x) (Some (at + 1))
  laid_byte h =
      laid_text (x ∷ []) b (set b at x) at (omega arith) (length-set b at x)
      (ap (λ (n : ℕ). take n (set b at x)) (add-one at) ∙ take-suc-set b at x h)

  -- a byte that has none
  pub laid_no_byte : length b ≤ at → Laid (some (x ∷ [])) b at b None
  laid_no_byte h = laid_no_room (x ∷ []) b at (inr (omega arith))

-- a text laid byte by byte: one byte more, the last, and one that has no room
module _ (x : List ℕ) (i : ℕ) {b b₁ : List ℕ} {at at₁ : ℕ} (g : Laid (some (take i x)) b at b₁ (Some at₁)) where
  pub laid_next : i < length x → {b₂ : List ℕ} {r : std.Option ℕ} → Laid (some (get_or x i 0 ∷ [])) b₁ at₁ b₂ r →
      Laid (some (take (i + 1) x)) b at b₂ r
  unfolding joined
  laid_next h y = rw (add-one, take-suc x i 0 h) (laid_then g y)

  pub laid_whole : length x ≤ i → Laid (some x) b at b₁ (Some at₁)
  laid_whole h = rw (take_all i x h) at g

  pub laid_short : i < length x → {b₂ : List ℕ} → Laid (some (get_or x i 0 ∷ [])) b₁ at₁ b₂ None → Laid (some x) b at b₂ None
  unfolding joined
  laid_short h y = laid_as (ap {B = Text} some (take-append-drop (i + 1) x)) (laid_stops (laid_next h y) (some (drop (i + 1) x)))

-- a number digit by digit
pub laid_digit : (n : ℕ) → n < 10 → {b b₁ : List ℕ} {at : ℕ} {r : std.Option ℕ} → Laid (some ((48 + n) ∷ [])) b at b₁ r →
    Laid (some (decimal n)) b at b₁ r
laid_digit n h g = laid_as (ap {B = Text} some (sym (decimal_one n h))) g

pub laid_digits : (n : ℕ) → 10 ≤ n → n < 10000000 → {b b₁ b₂ : List ℕ} {at at₁ : ℕ} {r : std.Option ℕ} →
    Laid (some (decimal (n / 10))) b at b₁ (Some at₁) → Laid (some ((48 + n % 10) ∷ [])) b₁ at₁ b₂ r → Laid (some (decimal n)) b at b₂ r
unfolding joined
laid_digits n h l g y = laid_as (ap {B = Text} some (sym (decimal_last n h l))) (laid_then g y)

pub digits_stop : (n : ℕ) → 10 ≤ n → n < 10000000 → {b b₁ : List ℕ} {at : ℕ} → Laid (some (decimal (n / 10))) b at b₁ None →
    Laid (some (decimal n)) b at b₁ None
unfolding joined
digits_stop n h l g = laid_as (ap {B = Text} some (sym (decimal_last n h l))) (laid_stops g (some ((48 + n % 10) ∷ [])))
