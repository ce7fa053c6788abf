-- What follows from each place on, and a history that has it.
use Rattle.std.proofs.Common.{◌≡◌, ◌∙◌, ℕ, ◌≤◌, zero, suc, Bool, true, false, List, []}
use Rattle.std.proofs.Common.{◌∷◌, ◌++◌, length, map, All, arith, refl, sym, ap}
use Rattle.std.proofs.Common.{append_assoc}
use Rattle.std.proofs.lemmas.List.{nil_from_length}
use Rattle.std.proofs.lemmas.List.Elements.{All-nil, All-cons}
use Rattle.std.specs.List.{flat_map}
use Rattle.std.specs.Prelude.{codes}
use Rattle.rc_dbtext.proofs.Plain.{IsName-a}
use Rattle.rc_historytext.specs.Text.{Line, First, OfPlace, OfMarks, OfDatabase, OfSession}
use Rattle.rc_historytext.specs.Text.{RenameCount, OfRename, Last, RenameText, GenerationText}
use Rattle.rc_historytext.specs.Text.{HistoryText, IsRename, IsGenerationText, IsHistoryText}
use Rattle.rc_historytext.specs.Text.{generation_lines, history_lines, oldest_renames}
use Rattle.rc_historytext.specs.Due.{Place, AtFirst, AtPlace, AtMarks, AtDatabase, AtSession}
use Rattle.rc_historytext.specs.Due.{AtCount, AtRename, AtLast, AtEnd, IsDue, AreDue, behind}
use Rattle.rc_historytext.specs.Due.{place_after, before_generations, before_renames, most_renames}

-- so many generations, and the last line
pub record EndsIn (oldest : Bool) (n : ℕ) (ls : List Line) : Type 0 where
  pub generations : List GenerationText
  pub count : length generations ≡ n
  pub each : All IsGenerationText generations
  pub none : oldest ≡ true → oldest_renames generations ≡ []
  pub lines : ls ≡ flat_map generation_lines generations ++ Last ∷ []

-- the last lines of a generation, and so many generations after it
pub record GoesOn (oldest : Bool) (more : ℕ) (part : GenerationText → List Line) (ls : List Line)
    : Type 0 where
  pub generation : GenerationText
  pub is : IsGenerationText generation
  pub few : length generation.renames ≤ most_renames oldest
  pub rest : List Line
  pub ends : EndsIn false more rest
  pub lines : ls ≡ part generation ++ rest

-- so many renames, and so many generations after them
pub record HasRenames (n more : ℕ) (ls : List Line) : Type 0 where
  pub renames : List RenameText
  pub count : length renames ≡ n
  pub each : All IsRename renames
  pub rest : List Line
  pub ends : EndsIn false more rest
  pub lines : ls ≡ map OfRename renames ++ rest

-- the parts of a generation's lines
abbrev rename_lines : GenerationText → List Line
rename_lines g = RenameCount (length g.renames) ∷ map OfRename g.renames

abbrev session_lines : GenerationText → List Line
session_lines g = OfSession g.session ∷ rename_lines g

abbrev database_lines : GenerationText → List Line
database_lines g = OfDatabase g.database ∷ session_lines g

-- the lines from a place on are those of a history
abbrev pub IsRest : Place → List Line → Type 0
IsRest AtFirst ls = (t : HistoryText) × IsHistoryText t × (ls ≡ history_lines t)
IsRest AtPlace ls = (t : HistoryText) × IsHistoryText t × (First ∷ ls ≡ history_lines t)
IsRest (AtMarks oldest more) ls = EndsIn oldest (suc more) ls
IsRest (AtDatabase oldest more) ls = GoesOn oldest more database_lines ls
IsRest (AtSession oldest more) ls = GoesOn oldest more session_lines ls
IsRest (AtCount oldest more) ls = GoesOn oldest more rename_lines ls
IsRest (AtRename left more) ls = HasRenames (suc left) more ls
IsRest AtLast ls = EndsIn false 0 ls
IsRest AtEnd ls = ls ≡ []

ends_from : (more : ℕ) (ls : List Line) → IsRest (before_generations more) ls
    → EndsIn false more ls
ends_from zero ls rest = rest
ends_from (suc more) ls rest = rest

renames_from : (n more : ℕ) (ls : List Line) → IsRest (before_renames n more) ls
    → HasRenames n more ls
renames_from zero more ls rest = record {
  renames = [];
  count = refl;
  each = All-nil IsRename;
  rest = ls;
  ends = ends_from more ls rest;
  lines = refl;
}
renames_from (suc n) more ls rest = rest

-- no renames where the oldest generation may have none
none_oldest : (oldest : Bool) (rs : List RenameText) → length rs ≤ most_renames oldest
    → oldest ≡ true → rs ≡ []
none_oldest true rs few is = nil_from_length rs (omega arith)
none_oldest false rs few is = absurd cc

few_of_any : (oldest : Bool) (n : ℕ) → n ≤ most_renames oldest → n ≤ 4096
few_of_any true n few = omega arith
few_of_any false n few = few

-- one line more in front of them
pub rest_cons : (p : Place) (l : Line) (ls : List Line) → IsDue p l → IsRest (behind p l) ls
    → IsRest p (l ∷ ls)
rest_cons AtFirst First ls due rest = rest
rest_cons AtPlace (OfPlace present zero) ls due rest = absurd (omega (arith, due.0))
rest_cons AtPlace (OfPlace present (suc more)) ls due rest = (
  record { present = present; generations = rest.generations },
  record {
    present = omega (arith, due.0, rest.count);
    few = omega (arith, due.1, rest.count);
    each = rest.each;
    oldest = rest.none refl;
  },
  ap (λ (k : ℕ). First ∷ OfPlace present k ∷ ls) (sym rest.count)
      ∙ ap (λ (tail : List Line). First ∷ OfPlace present (length rest.generations) ∷ tail)
      rest.lines,
)
rest_cons (AtMarks oldest more) (OfMarks a b) ls due rest =
    let g : GenerationText = record rest.generation { first_passed = a; last_passed = b } in
    let behind : List Line = flat_map generation_lines rest.ends.generations in
    record {
      generations = g ∷ rest.ends.generations;
      count = ap suc rest.ends.count;
      each =
          All-cons IsGenerationText g rest.ends.generations
          (record {
            database = rest.is.database;
            session = rest.is.session;
            few = rest.is.few;
            each = rest.is.each;
          })
          rest.ends.each;
      none = none_oldest oldest rest.generation.renames rest.few;
      lines =
          ap (λ (tail : List Line). OfMarks a b ∷ tail)
          (rest.lines ∙ ap (λ (tail : List Line). database_lines rest.generation ++ tail)
          rest.ends.lines)
          ∙ sym (append_assoc (generation_lines g) behind (Last ∷ []));
    }
rest_cons (AtDatabase oldest more) (OfDatabase text) ls due rest = record {
  generation = record rest.generation { database = text };
  is = record {
    database = due;
    session = rest.is.session;
    few = rest.is.few;
    each = rest.is.each;
  };
  few = rest.few;
  rest = rest.rest;
  ends = rest.ends;
  lines = ap (λ (tail : List Line). OfDatabase text ∷ tail) rest.lines;
}
rest_cons (AtSession oldest more) (OfSession text) ls due rest = record {
  generation = record rest.generation { session = text };
  is = record {
    database = rest.is.database;
    session = due;
    few = rest.is.few;
    each = rest.is.each;
  };
  few = rest.few;
  rest = rest.rest;
  ends = rest.ends;
  lines = ap (λ (tail : List Line). OfSession text ∷ tail) rest.lines;
}
rest_cons (AtCount oldest more) (RenameCount count) ls due rest =
    let has = renames_from count more ls rest in
    record {
      generation = record {
        first_passed = false;
        last_passed = false;
        database = [];
        session = [];
        renames = has.renames;
      };
      is = record {
        database = omega arith;
        session = omega arith;
        few = few_of_any oldest (length has.renames) (omega (arith, has.count));
        each = has.each;
      };
      few = omega (arith, has.count);
      rest = has.rest;
      ends = has.ends;
      lines =
          ap (λ (k : ℕ). RenameCount k ∷ ls) (sym has.count)
          ∙ ap (λ (tail : List Line). RenameCount (length has.renames) ∷ tail) has.lines;
    }
rest_cons (AtRename left more) (OfRename rename) ls due rest =
    let has = renames_from left more ls rest in
    record {
      renames = rename ∷ has.renames;
      count = ap suc has.count;
      each = All-cons IsRename rename has.renames due has.each;
      rest = has.rest;
      ends = has.ends;
      lines = ap (λ (tail : List Line). OfRename rename ∷ tail) has.lines;
    }
rest_cons AtLast Last ls due rest = record {
  generations = [];
  count = refl;
  each = All-nil IsGenerationText;
  none = λ is. refl;
  lines = ap (λ (tail : List Line). Last ∷ tail) rest;
}
rest_cons p l ls due rest = absurd due

-- and many lines
pub rest_onto : (p : Place) (before ls : List Line) → AreDue p before
    → IsRest (place_after p before) ls → IsRest p (before ++ ls)
rest_onto p [] ls due rest = rest
rest_onto p (l ∷ before) ls due rest =
    rest_cons p l (before ++ ls) due.0 (rest_onto (behind p l) before ls due.1 rest)

-- from each place on some lines lead to the end
abbrev plain : GenerationText
plain = record {
  first_passed = false;
  last_passed = false;
  database = [];
  session = [];
  renames = [];
}

abbrev plains : ℕ → List GenerationText
plains zero = []
plains (suc n) = plain ∷ plains n

plain_is : IsGenerationText plain
plain_is = record {
  database = omega arith;
  session = omega arith;
  few = omega arith;
  each = All-nil IsRename;
}

plains_count : (n : ℕ) → length (plains n) ≡ n
plains_count zero = refl
plains_count (suc n) = ap suc (plains_count n)

plains_are : (n : ℕ) → All IsGenerationText (plains n)
plains_are zero = All-nil IsGenerationText
plains_are (suc n) = All-cons IsGenerationText plain (plains n) plain_is (plains_are n)

plains_none : (n : ℕ) → oldest_renames (plains n) ≡ []
plains_none zero = refl
plains_none (suc n) = refl

abbrev plain_end : ℕ → List Line
plain_end n = flat_map generation_lines (plains n) ++ Last ∷ []

plain_ends : (oldest : Bool) (n : ℕ) → EndsIn oldest n (plain_end n)
plain_ends oldest n = record {
  generations = plains n;
  count = plains_count n;
  each = plains_are n;
  none = λ is. plains_none n;
  lines = refl;
}

plain_goes : (oldest : Bool) (more : ℕ) (part : GenerationText → List Line)
    → GoesOn oldest more part (part plain ++ plain_end more)
plain_goes oldest more part = record {
  generation = plain;
  is = plain_is;
  few = omega arith;
  rest = plain_end more;
  ends = plain_ends false more;
  lines = refl;
}

-- a name, and so many renames
abbrev pub same_name : RenameText
same_name = record { old = codes "a"; new = codes "a" }

pub same_name_is : IsRename same_name
same_name_is = record { old = IsName-a; new = IsName-a }

abbrev same_names : ℕ → List RenameText
same_names zero = []
same_names (suc n) = same_name ∷ same_names n

plain_renames : (n more : ℕ)
    → HasRenames n more (map OfRename (same_names n) ++ plain_end more)
plain_renames n more = record {
  renames = same_names n;
  count = counted n;
  each = all n;
  rest = plain_end more;
  ends = plain_ends false more;
  lines = refl;
}
  where
    counted : (n : ℕ) → length (same_names n) ≡ n
    counted zero = refl
    counted (suc n) = ap suc (counted n)

    all : (n : ℕ) → All IsRename (same_names n)
    all zero = All-nil IsRename
    all (suc n) =
        All-cons IsRename same_name (same_names n) same_name_is (all n)

abbrev plain_text : HistoryText
plain_text = record { present = 0; generations = plain ∷ [] }

plain_text_is : IsHistoryText plain_text
plain_text_is = record {
  present = omega arith;
  few = omega arith;
  each = All-cons IsGenerationText plain [] plain_is (All-nil IsGenerationText);
  oldest = refl;
}

pub some_rest : (p : Place) → (ls : List Line) × IsRest p ls
some_rest AtFirst = (history_lines plain_text, (plain_text, plain_text_is, refl))
some_rest AtPlace = (
  OfPlace 0 1 ∷ (flat_map generation_lines (plain ∷ []) ++ Last ∷ []),
  (plain_text, plain_text_is, refl),
)
some_rest (AtMarks oldest more) = (plain_end (suc more), plain_ends oldest (suc more))
some_rest (AtDatabase oldest more) =
    (database_lines plain ++ plain_end more, plain_goes oldest more database_lines)
some_rest (AtSession oldest more) =
    (session_lines plain ++ plain_end more, plain_goes oldest more session_lines)
some_rest (AtCount oldest more) =
    (rename_lines plain ++ plain_end more, plain_goes oldest more rename_lines)
some_rest (AtRename left more) =
    (map OfRename (same_names (suc left)) ++ plain_end more, plain_renames (suc left) more)
some_rest AtLast = (plain_end 0, plain_ends false 0)
some_rest AtEnd = ([], refl)
