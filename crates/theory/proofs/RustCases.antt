-- The cases of document 01 hold of the Rust's definition too: computed. Assumes nothing.
use Prim.Native.Nat.{ℕ}
use mathlib.Core.Path.{◌≡◌, refl}
use mathlib.Core.List.{List, map, ◌++◌}
use lib.Count.{count_trailing_zeros}
use lib.Ieee.{span, climb, size, odd, units, round, div, of_int, to_unsigned}
use Rattle.theory.specs.Form.{shape_of, shape, tree_of, grow, trees, form}
use Rattle.theory.specs.Names.{same, among}
use Rattle.theory.specs.NameText.{cut_entry, entries_up_to, names_in}
use Rattle.theory.specs.Text.{bytes, digits, leaf_text, form_text}
use Rattle.theory.specs.Call.{given_words, given_book}
use Rattle.theory.specs.Table.{Example, starred, unstarred, name_text, claim_in}
use Rattle.theory.specs.RustNames.{floored, power, pushes, turned, generate}
use Rattle.theory.specs.RustTerm.{equal, removed, find}
use Rattle.theory.specs.RustText.{house_text}
use Rattle.theory.specs.RustProver.{question, if_let_some, generated, generate_identifier, handle_and_right, handle_impl_right, prove_right}
use Rattle.theory.specs.RustProver.{handle_and_left, handle_or_left, handle_impl_left, match_popped, prove_left, impl_impl, impl_rule}
use Rattle.theory.specs.RustProver.{impl_rules, or_rules, atom_change, change, changes, changed, id_rule, impl_atom_rule, after_id, search'}
use Rattle.theory.specs.RustProver.{body, called, assumed, prove_with_assumptions}
use Rattle.theory.specs.RustCall.{paired, assumptions_of, goal_of}
use Rattle.theory.specs.RustTable.{shown_of, rust_shown, rust_stated}

-- a case, as the Rust's definition runs it and as the table states it
abbrev runs : Example → List ℕ × ℕ
runs x = rust_shown x x.outcome

abbrev states : Example → List ℕ × ℕ
states x = rust_stated x x.outcome

pub rust_cases_hold : map runs (starred ++ unstarred) ≡ map states (starred ++ unstarred)
unfolding count_trailing_zeros span climb size odd units round div of_int to_unsigned shape_of shape tree_of grow trees form same
    among cut_entry
    entries_up_to names_in bytes digits leaf_text form_text given_words given_book starred unstarred name_text claim_in floored
    power pushes turned
    generate equal removed find house_text question if_let_some generated generate_identifier handle_and_right handle_impl_right prove_right
    handle_and_left handle_or_left handle_impl_left match_popped prove_left impl_impl impl_rule impl_rules or_rules atom_change
    change changes changed
    id_rule impl_atom_rule after_id search' body called assumed prove_with_assumptions paired assumptions_of goal_of shown_of
    rust_shown rust_stated
rust_cases_hold = refl
