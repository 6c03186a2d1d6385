-- A little-endian number byte by byte from its last one on, over its width. Assumes nothing.
use Prim.Native.Nat.{ℕ, suc, ◌+◌, ◌-◌, ◌*◌, ◌^◌, ◌≤◌, ◌<◌}
use mathlib.Core.Path.{◌≡◌, sym, ap, ap₂, ◌∙◌, subst}
use mathlib.Core.List.{List, reverse}
use native.Mathlib.Omega.{arith}
use native.Mathlib.Nat.{le_trans, pow-le-pow_right, pow-succ'}
use lib.ListN.{length, get_or, take, drop, drop_of_length-le}
use lib.Seq.{length-take-le, drop-cons, get_or-take, get_or-drop}
use lib.ListN.{length-drop}
use Rattle.std.proofs.lemmas.List.{get_or_default, get_or-reverse, length-reverse}
use Rattle.theory.specs.File.{little_endian}
use Rattle.theory.proofs.Pack.{pair_below}

-- the bytes of the number at a place, those before `left` being still to come
pub record Read (bs : List ℕ) (at width number left : ℕ) : Type 0 where
  pub inside : left ≤ width
  pub value : number ≡ little_endian (drop left (take width (drop at bs)))
  pub below : number < 256 ^ (width - left)

module _ (bs : List ℕ) (at width : ℕ) (fits : at + width ≤ length bs) where
  part_long : length (take width (drop at bs)) ≡ width
  part_long = length-take-le width (drop at bs) (omega (arith, length-drop at bs))

  pub none_read : Read bs at width 0 width
  unfolding little_endian
  none_read =
      let none : width - width ≡ 0 = omega arith in
      record {
        inside = omega arith;
        value = ap little_endian (sym (drop_of_length-le (take width (drop at bs)) {i = width} (omega (arith, part_long))));
        below = subst (λ (k : ℕ). 0 < 256 ^ k) (sym none) (omega arith);
      }

  pub byte_read : (number left : ℕ) → Read bs at width number left → 0 < left → get_or bs (at + (left - 1)) 0 < 256 →
      Read bs at width (get_or bs (at + (left - 1)) 0 + 256 * number) (left - 1)
  unfolding little_endian
  byte_read number left r h b =
      let inside : left - 1 < width = omega (arith, r.inside) in
      let next : suc (left - 1) ≡ left = omega arith in
      let more : suc (width - left) ≡ width - (left - 1) = omega (arith, r.inside) in
      let cons = drop-cons (take width (drop at bs)) (left - 1) 0 (omega (arith, part_long)) in
      record {
        inside = omega arith;
        value = sym (ap little_endian cons
            ∙ ap₂ (λ (x y : ℕ). x + 256 * y) (get_or-take width (drop at bs) (left - 1) 0 inside ∙ get_or-drop at bs (left - 1) 0)
            (ap (λ (k : ℕ). little_endian (drop k (take width (drop at bs)))) next ∙ sym r.value));
        below = subst (λ (n : ℕ). get_or bs (at + (left - 1)) 0 + 256 * number < n)
            (sym (pow-succ' 256 (width - left)) ∙ ap (λ (k : ℕ). 256 ^ k) more)
            (pair_below 256 (256 ^ (width - left)) (get_or bs (at + (left - 1)) 0) number b r.below);
      }

  -- the part of the file that the code reads from its end on
  abbrev pub part : List ℕ
  part = take (at + width - at) (drop at bs)

  pub last_read : (number n b : ℕ) → Read bs at width number (width - n) → n < length (reverse part) → b ≡ get_or (reverse part) n b →
      ((i : ℕ) → get_or bs i 0 < 256) → Read bs at width (b + 256 * number) (width - (n + 1))
  last_read number n b r h e small =
      let size : at + width - at ≡ width = omega arith in
      let long : length part ≡ width = ap (λ (k : ℕ). length (take k (drop at bs))) size ∙ part_long in
      let inside : n < length part = omega (arith, h, length-reverse part) in
      let place : length part - 1 - n ≡ width - n - 1 = omega arith in
      let low : width - n - 1 < at + width - at = omega arith in
      let byte : b ≡ get_or bs (at + (width - n - 1)) 0 =
      e ∙ get_or-reverse part n b inside
      ∙ ap (λ (k : ℕ). get_or part k b) place
      ∙ get_or_default part (width - n - 1) b 0 (omega arith)
      ∙ get_or-take (at + width - at) (drop at bs) (width - n - 1) 0 low
      ∙ get_or-drop at bs (width - n - 1) 0 in
      subst (λ (k : ℕ). Read bs at width (b + 256 * number) k) (let next : width - n - 1 ≡ width - (n + 1) = omega arith in next)
      (subst (λ (v : ℕ). Read bs at width (v + 256 * number) (width - n - 1)) (sym byte)
      (byte_read number (width - n) r (omega arith) (small (at + (width - n - 1)))))

  pub all_read : (number n : ℕ) → Read bs at width number (width - n) → n ≡ length (reverse part) →
      (number ≡ little_endian (take width (drop at bs))) × (number < 256 ^ width)
  all_read number n r e =
      let size : at + width - at ≡ width = omega arith in
      let long : length part ≡ width = ap (λ (k : ℕ). length (take k (drop at bs))) size ∙ part_long in
      let none : width - n ≡ 0 = omega (arith, e, length-reverse part) in
      let all : width - (width - n) ≡ width = omega arith in (
        r.value ∙ ap (λ (k : ℕ). little_endian (drop k (take width (drop at bs)))) none,
        subst (λ (k : ℕ). number < 256 ^ k) all r.below,
      )

-- a number of at most four bytes has at most 32 bits
pub in_four : {bs : List ℕ} {at width number left : ℕ} → Read bs at width number left → width ≤ 4 → number < 4294967296
in_four {width} {left} r h =
    let few : width - left ≤ 4 = omega arith in
    le_trans r.below (pow-le-pow_right {n = 256} (omega arith) few)
