-- What the writer is lent, as theory has it, and why it writes nothing. Assumes nothing.
use Rattle.std.specs.Prelude.{ℕ, List}
use Rattle.theory.specs.Refusal.{fault_number}
use Rattle.theory.specs.Writer.{Draft}
use Rattle.refusal.specs.Table.{refusal_of}
use Rattle.house_text.specs.declared.Draft as lent
use Rattle.house_text.specs.declared.TextRefusal.{TextRefusal}
use Rattle.house_text.specs.declared.TextRefusal.TheVariants.{Refused, NoRoom}

abbrev pub draft : List ℕ → ℕ → ℕ → List ℕ → List ℕ → ℕ → ℕ → List ℕ → Draft
draft words count assumptions text terms nodes root buffer = record {
  words = words;
  count = count;
  assumptions = assumptions;
  text = text;
  terms = terms;
  nodes = nodes;
  root = root;
  buffer = buffer;
}

-- a draft and the buffer that it is written into
abbrev pub draft_of : lent.Draft → List ℕ → Draft
draft_of d buffer = draft d.words.now d.count d.assumptions d.names.now d.terms.now d.nodes d.root buffer

-- a refusal's number in document 01's table, and its place
abbrev pub number_of : TextRefusal → ℕ
number_of (Refused r) = fault_number (refusal_of r).fault
number_of NoRoom = 12

abbrev pub place_of : TextRefusal → ℕ
place_of (Refused r) = (refusal_of r).place
place_of NoRoom = 0
