-- The first sequent: after the assumptions are written, the lists show theory's state at the start. Assumes nothing.
use Prim.Native.Nat.{ℕ, suc, ◌+◌, ◌-◌, ◌≤◌}
use mathlib.Core.Path.{◌≡◌, refl, sym, ap, ap₂, subst}
use mathlib.Core.Option.{none}
use mathlib.Core.List.{List, [], ◌∷◌, ◌++◌, append-nil}
use native.Mathlib.Omega.{arith}
use native.Mathlib.Numerals.{add-one}
use lib.ListN.{length, set}
use Rattle.theory.specs.Form.{Book}
use Rattle.theory.specs.Term.{Node, by, ident, assumed}
use Rattle.theory.specs.NameText.{names_in}
use Rattle.theory.specs.Layout.{in_numbers}
use Rattle.theory.specs.Refusal.{highest_level}
use Rattle.theory.specs.Meter as M
use Rattle.theory.specs.Search.{idents, pushed, first, given, entry}
use Rattle.theory.specs.Written.{AllIn}
use Rattle.theory.specs.Call.{Claim, given_words, given_book, refusal, or_zero}
use Rattle.theory.specs.Owed as Owed
use Rattle.theory.proofs.Passing.{passes}
use Rattle.meter.specs.declared.Limits.{Limits}
use Rattle.meter.specs.Moves.{spent}
use Rattle.context.specs.Moves.{stretch}
use Rattle.context.specs.Area.{Rec, rec}
use Rattle.search_laws.specs.Reading.{Lent, lent, unordered_in, ordered_in, seq_of, Shows}
use Rattle.search_laws.specs.Tables.{upto, downto}
use Rattle.search_laws.specs.Keeping.{Within, Rep}
use Rattle.search_laws.specs.Making.{Made}
use Rattle.search_laws.proofs.Areas.{Area, area_start, area_push}
use Rattle.search_laws.proofs.Write.{AllFit, words_none}
use Rattle.search_laws.proofs.Look.{fits16}
use Rattle.search_laws.proofs.Making.{made_of}
use Rattle.call.specs.Start.{idents_from, seated, first_sequent, first_state, limits_in, assumed_in}
use Rattle.call.proofs.Given.{laid_given, book_given}

-- the nodes of the pieces are theory's
idents_by : (i : ℕ) (hs : List ℕ) → by assumed (idents_from i hs) ≡ idents i hs
unfolding idents_from idents
idents_by i [] = refl
idents_by i (a ∷ hs) = ap (λ (ns : List Node). by assumed (ident i ∷ []) ++ ns) (idents_by (suc i) hs)

pub idents_many : (i : ℕ) (hs : List ℕ) → length (idents i hs) ≡ length hs
unfolding idents
idents_many i [] = refl
idents_many i (a ∷ hs) = ap suc (idents_many (suc i) hs)

pieces_many : (i : ℕ) (hs : List ℕ) → length (idents_from i hs) ≡ length hs
unfolding idents_from
pieces_many i [] = refl
pieces_many i (a ∷ hs) = ap suc (pieces_many (suc i) hs)

pieces_fit : (i : ℕ) (hs : List ℕ) → i + length hs ≤ 65536 → AllFit (idents_from i hs)
unfolding idents_from
pieces_fit i [] h = tt
pieces_fit i (a ∷ hs) h = (fits16 (ident i) tt (omega arith), pieces_fit (suc i) hs (omega arith))

-- one record after another, all of them pushed
seated_area : {m : Limits} {nf nt : ℕ} {w0 : List Rec} (ws : Book) (g : ℕ) → length ws ≡ nf → (nf ≤ 65536) × (nt ≤ 65536) →
    (i : ℕ) (hs : List ℕ) (w : List Rec) (os : List M.Entry) → AllIn ws hs → i + length hs ≤ nt → i + length hs ≤ 64 →
    Area m nf nt 0 w0 w (first_sequent i g) [] os → Area m nf nt 0 w0 (seated i hs w) (first_sequent (i + length hs) g) [] (pushed i hs os)
unfolding seated pushed
seated_area {m} {nf} {nt} {w0} ws g e few i [] w os ins h k a =
    subst (λ (n : ℕ). Area m nf nt 0 w0 w (first_sequent n g) [] os) (let p : i ≡ i + 0 = omega arith in p) a
seated_area {m} {nf} {nt} {w0} ws g e few i (b ∷ hs) w os ins h k a =
    subst (λ (n : ℕ). Area m nf nt 0 w0 (seated (suc i) hs (set w (stretch - 1 - i) (rec b i))) (first_sequent n g) []
    (pushed (suc i) hs (entry b i ∷ os)))
    (let p : suc i + length hs ≡ i + suc (length hs) = omega arith in p)
    (seated_area ws g e few (suc i) hs (set w (stretch - 1 - i) (rec b i)) (entry b i ∷ os) ins.1 (omega arith) (omega arith)
    (area_push a b i (omega (arith, ins.0)) (omega arith) few (omega arith) (omega arith) refl
    (ap (λ (n : ℕ). first_sequent n g) (sym (add-one i)))))

module _ (x : Claim) (w : List Rec) (passed : refusal x ≡ none) (whole : length w ≡ x.records) where
  p : Owed.Passes x
  p = passes x passed

  top : (limits_in x).levels ≡ 63
  unfolding highest_level or_zero
  top = ap (λ (n : ℕ). or_zero (highest_level n)) p.records

  -- the names are as many as the assumptions
  pub few_names : length (names_in x.text) ≤ 64
  few_names = omega (arith, p.named, p.few)

  abbrev unwritten : Lent
  unwritten = lent x.words x.terms w

  -- before anything is written: the limits have room, nothing is used and nothing is in the contexts
  first_rep : Rep (limits_in x) unwritten (first_state x.count 0) (first_sequent 0 x.goal)
  unfolding given_words
  first_rep = record {
    rooms = record {
      most_steps = p.few_steps;
      most_formulas = p.few_words;
      most_terms = omega (arith, p.few_terms);
      most_levels = omega (arith, top);
      most_records = omega (arith, p.records);
      words_room = omega arith;
      numbers_room = omega arith;
      records_room = omega (arith, top, p.records);
    };
    within = record { in_steps = omega arith; in_indices = omega arith; in_formulas = p.given; in_terms = omega arith };
    laid = laid_given x.words x.count p.given p.words;
    seats = record {
      level_in = omega arith;
      fits = omega arith;
      goal_in = omega (arith, p.goal, p.book);
      unordered_inside = λ i h. absurd (omega arith);
      ordered_inside = λ i h. absurd (omega arith);
      unordered_is = refl;
      ordered_is = refl;
    };
  }

  pub first_within : Within (limits_in x) (first_state x.count 0)
  first_within = first_rep.within

  -- both contexts are empty
  empty_area : {nf nt : ℕ} → x.count ≤ nf → Area (limits_in x) nf nt 0 w w (first_sequent 0 x.goal) [] []
  unfolding unordered_in ordered_in upto downto
  empty_area h = area_start 0 first_rep h (omega arith)

  first_shows : Shows unwritten (first_state x.count 0) (given (given_book x))
  unfolding given given_book given_words in_numbers
  first_shows = record {
    words = sym (book_given x.words x.count p.given);
    nodes = refl;
    many = refl;
    used = refl;
    steps = refl;
  }

  module _ (room : length x.assumed ≤ (limits_in x).terms) where
    many : length (idents_from 0 x.assumed) ≡ length x.assumed
    many = pieces_many 0 x.assumed

    area : Area (limits_in x) (x.count + 0) (0 + length (idents_from 0 x.assumed)) 0 w (seated 0 x.assumed w)
        (first_sequent (length x.assumed) x.goal) [] (pushed 0 x.assumed [])
    area =
        subst (λ (n : ℕ). Area (limits_in x) (x.count + 0) (0 + length (idents_from 0 x.assumed)) 0 w (seated 0 x.assumed w)
        (first_sequent n x.goal) [] (pushed 0 x.assumed []))
        (let e : 0 + length x.assumed ≡ length x.assumed = omega arith in e)
        (seated_area (given_book x) x.goal (omega (arith, p.book)) (omega (arith, p.few_words, p.given), omega (arith, p.few, many))
        0 x.assumed w [] p.ins (omega (arith, many)) (omega (arith, p.few)) (empty_area (omega arith)))

    -- nothing is spent but a node for each assumption
    counts : first_state x.count (length x.assumed) ≡ spent (first_state x.count 0) 0 0 (length (idents_from 0 x.assumed))
    counts =
        ap₂ (λ (f t : ℕ). record { steps = 0; indices = 0; formulas = f; terms = t })
        (let e : x.count ≡ x.count + 0 = omega arith in e)
        (let e : length x.assumed ≡ 0 + length (idents_from 0 x.assumed) = omega (arith, many) in e)

    -- the assumptions' nodes and records, as one charge
    made : Made (limits_in x) unwritten (first_state x.count 0) (first_sequent 0 x.goal) 0 [] (by assumed (idents_from 0 x.assumed))
        (first x.assumed x.goal) (assumed_in x w) (first_state x.count (length x.assumed))
        (first_sequent (length x.assumed) x.goal)
    unfolding first
    made = made_of assumed 0 (idents_from 0 x.assumed) (first x.assumed x.goal) first_rep words_none refl
        (pieces_fit 0 x.assumed (omega (arith, p.few))) counts (omega arith) (omega (arith, p.given)) (omega (arith, many))
        area (omega arith) refl refl refl refl

    -- what the search by right asks
    pub start_rep : Rep (limits_in x) (assumed_in x w)
        (first_state x.count (length x.assumed)) (first_sequent (length x.assumed) x.goal)
    start_rep = made.rep

    pub start_lengths : (length (assumed_in x w).numbers ≡ length x.terms) × (length (assumed_in x w).records ≡ length w)
    start_lengths = (made.frame.numbers.long, made.frame.records.long)

    pub start_sequent : first x.assumed x.goal ≡ seq_of (assumed_in x w).records (first_sequent (length x.assumed) x.goal)
    start_sequent = made.next

    -- theory's state after the assumptions' Idents
    abbrev pub start_state : M.State
    start_state = record { words = given_book x; nodes = idents 0 x.assumed; used = 0; steps = 0 }

    pub start_shows : Shows (assumed_in x w) (first_state x.count (length x.assumed)) start_state
    unfolding given
    start_shows =
        subst (Shows (assumed_in x w) (first_state x.count (length x.assumed)))
        (ap₂ (λ (ws : Book) (ns : List Node). record { words = ws; nodes = ns; used = 0; steps = 0 }) (append-nil (given_book x))
        (idents_by 0 x.assumed))
        (made.shows (given (given_book x)) first_shows)
