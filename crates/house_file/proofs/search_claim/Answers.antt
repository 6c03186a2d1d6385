-- `search_claim` lends a work area of 16,384 records, and says nothing of it afterwards. Assumes nothing.
use Prim.Native.Nat.{ℕ}
use mathlib.Core.Path.{◌≡◌, ap, ◌∙◌, subst}
use mathlib.Core.List.{List}
use lib.ListN.{length, length-replicate}
use Rattle.context.specs.Area.{Rec, zeroed}
use Rattle.call.specs.Outcomes.{Outcome}
use Rattle.call.specs.Lent.{claim_of}
use Rattle.call.specs.Whole.{Called}
use Rattle.house_file.specs.Output.{Answers}
use Rattle.house_file.proofs.search_claim.Goals as goal

-- what the call says of a work area of that length, without its records
answers : (f : List ℕ) (n : ℕ) (a s : List ℕ) (g : ℕ) (t : List ℕ) (steps : ℕ) {w w1 : List Rec} {o : Outcome} {f1 t1 : List ℕ} →
    length w ≡ 16384 → Called (claim_of f n a s g t (length w) steps) w o f1 t1 w1 → Answers (claim_of f n a s g t 16384 steps) o f1 t1
answers f n a s g t steps {w} {w1} {o} {f1} {t1} e c =
    subst (λ (k : ℕ). Answers (claim_of f n a s g t k steps) o f1 t1) e
    (record { outcome = c.outcome; words = c.words; terms = c.terms })

pub returns : goal.returns
returns c =
    let args = c.args in
    answers args.words.now args.count args.assumed.now args.names.now args.goal args.terms.now 1000000
    (ap length c.filled-work.ensures ∙ length-replicate 16384 zeroed)
    c.prove.ensures
