-- `open_goal`: with the goal alone marked, a marked formula is open if the goal is. Assumes nothing.
use Prim.Native.Nat.{ℕ, suc, ◌+◌}
use mathlib.Core.Path.{◌≡◌, ap, ap₂, ◌∙◌}
use mathlib.Core.List.{List, map}
use native.Mathlib.Omega.{arith}
use lib.ListN.{length, set, take, replicate}
use Rattle.theory.specs.Form.{Book, shape}
use Rattle.context.specs.Area.{Rec, zeroed}
use Rattle.status.specs.Marks.{mark, some_open}
use Rattle.status.proofs.Marked.{goal_marked}
use Rattle.status.proofs.open_goal.Goals as goal

pub returns : goal.returns
returns c =
    let a = c.args in
    let b : Book = map shape (take a.count a.words.now) in
    let k : ℕ = length a.work.now in
    let long : length c.marked_open-answer.new.work ≡ k = omega (arith, c.marked_open-answer.auto, c.put.auto) in record {
      result = c.marked_open-answer.ensures
          ∙ ap₂ (λ (v : List Rec) (n : ℕ). some_open b v n) (c.put.ensures ∙ ap (λ (v : List Rec). set v a.goal mark) c.requires.work)
          (let e : a.goal + 1 ≡ suc a.goal = omega arith in e)
          ∙ goal_marked b k a.goal (omega (arith, c.requires.sizes));
      work = c.clear.ensures ∙ ap (λ (n : ℕ). replicate n zeroed) long;
    }
