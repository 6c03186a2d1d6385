-- `clear`: what is kept, and zeros to the end. Assumes nothing.
use Prim.Native.Nat.{ℕ, ◌-◌, ◌≤◌}
use mathlib.Core.Path.{◌≡◌, sym, ap, ◌∙◌}
use mathlib.Core.List.{List, [], ◌++◌, append-nil}
use native.Mathlib.Omega.{arith}
use lib.ListN.{length, take, drop, replicate}
use lib.Seq.{take_all}
use borrow.Rule.Slice.PartMut.{put_mid, post_of}
use Rattle.std.proofs.lemmas.List.{length-drop, drop_all}
use Rattle.theory.specs.NameText.{padded}
use Rattle.theory.proofs.Cleared.{padded_take}
use Rattle.formula.proofs.clear.Goals as goal

-- nothing is left past a part that goes to the end
put_at_end : (from : ℕ) (l zeros : List ℕ) → zeros ≡ replicate (length (take (length l - from) (drop from l))) 0 →
    put_mid from (length l - from) l zeros ≡ padded (length l) (take from l)
put_at_end from l zeros e =
    let rest : take (length l - from) (drop from l) ≡ drop from l = take_all _ (drop from l) (omega (arith, length-drop from l)) in
    let none : post_of from (length l - from) l ≡ [] = drop_all (length l - from) (drop from l) (omega (arith, length-drop from l)) in
    ap (λ (xs : List ℕ). take from l ++ (zeros ++ xs)) none
    ∙ ap (λ (xs : List ℕ). take from l ++ xs) (append-nil zeros ∙ e ∙ ap (λ (n : ℕ). replicate n 0) (ap length rest ∙ length-drop from l))
    ∙ padded_take l from

none_to_clear : (from : ℕ) (l : List ℕ) → length l ≤ from → l ≡ padded (length l) (take from l)
none_to_clear from l h =
    let none : length l - from ≡ 0 = omega arith in
    sym (take_all from l h) ∙ sym (append-nil (take from l)) ∙ ap (λ (n : ℕ). take from l ++ replicate n 0) (sym none) ∙ padded_take l from

pub returns-then-from-words : goal.returns-then-from-words
returns-then-from-words c =
    put_at_end c.args.from c.args.words.now c.fill.new.self (c.fill.ensures.after (λ _ e. e))

pub returns-else-from-words : goal.returns-else-from-words
returns-else-from-words c =
    none_to_clear c.args.from c.args.words.now c.if-from-words.false
