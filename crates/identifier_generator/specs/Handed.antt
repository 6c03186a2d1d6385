-- What a writer hands back, held against the definition of it. Assumes nothing.
use Rattle.std.specs.Prelude.{ℕ, ◌≡◌, List, length, Result, Ok, Err}
use Rattle.std.specs.Borrow.{MutBor}
use Rattle.theory.specs.NameText.{Written}
use Rattle.identifier_generator.specs.declared.NameRefusal.{NameRefusal}
use Rattle.identifier_generator.specs.declared.NameRefusal.TheVariants.{Names, NoRoom}

-- a refusal's number in document 01's table
abbrev pub number_of : NameRefusal → ℕ
number_of Names = 7
number_of NoRoom = 12

-- the size of the written part, the number, and the whole buffer
pub record Hands (w : Written) (size number : ℕ) (buffer : List ℕ) : Type 0 where
  pub size_is : size ≡ length w.part
  pub number_is : number ≡ w.number
  pub buffer_is : buffer ≡ w.buffer

-- the written part itself, which starts where the lent buffer starts, and the number
pub record HandsPart (w : Written) (buf part : MutBor (List ℕ)) (number : ℕ) : Type 0 where
  pub front_is : part.ref_ptr ≡ buf.ref_ptr
  pub part_is : part.now ≡ w.part
  pub number_is : number ≡ w.number

-- what a result says of a writer whose refusals have these numbers: the size and 0, or no size and the number
abbrev pub size_in : {E : Type 0} → Result ℕ E → ℕ
size_in (Ok n) = n
size_in (Err e) = 0

abbrev pub number_in : {A E : Type 0} → (E → ℕ) → Result A E → ℕ
number_in number (Ok x) = 0
number_in number (Err e) = number e

-- the part handed back, or the number of the refusal
abbrev pub HandsResult : {E : Type 0} → (E → ℕ) → Written → MutBor (List ℕ) → Result (MutBor (List ℕ)) E → Type 0
HandsResult number w buf (Ok part) = HandsPart w buf part 0
HandsResult number w buf (Err e) = number e ≡ w.number
