-- What was read of a text is the prefix of one, and grows line by line.
use Rattle.std.proofs.Common.{◌≡◌, ◌∙◌, ℕ, true, false, List, [], ◌∷◌, ◌++◌, All, Option, Some}
use Rattle.std.proofs.Common.{None, IfSome, sym, ap, arith, append_assoc}
use Rattle.std.proofs.lemmas.List.{append-nil}
use Rattle.std.proofs.lemmas.List.Concat.{flat_map-append}
use Rattle.std.proofs.lemmas.List.Elements.{All-nil}
use Rattle.std.specs.List.{flat_map}
use Rattle.rc_model.specs.Names.{IsName}
use Rattle.rc_livetext.specs.Text.{Line, OfState, Last, StateText, LiveText, IsStateText}
use Rattle.rc_livetext.specs.Text.{IsLiveText, IsBundleText, head_lines, state_lines, live_lines}
use Rattle.rc_livetext.specs.Text.{spell}
use Rattle.rc_dbtext.specs.Form.{spells}
use Rattle.rc_livetext.specs.Refusals.{HasOtherVersion, IsStuckAt}
use Rattle.rc_livetext.specs.Following.{Part, IsPart, AtFirst, place_after, IsNoLineHere}
use Rattle.rc_livetext.specs.Following.{part_lines}
use Rattle.rc_livetext.proofs.Follows.{stuck_here}

-- a state in which nothing is up, without bundles
abbrev pub nothing_up : StateText
nothing_up = record { live = []; bundles = [] }

pub nothing_up_is : IsStateText nothing_up
nothing_up_is = record {
  live = record { order = λ i j d low within. absurd (omega arith); each = All-nil IsName };
  order = λ i j d low within. absurd (omega arith);
  few = omega arith;
  each = All-nil IsBundleText;
}

-- the lines before, with more after
three : (h b c more : List Line) → (h ++ (b ++ c)) ++ more ≡ h ++ (b ++ (c ++ more))
three h b c more =
    append_assoc h (b ++ c) more ∙ ap (λ (l : List Line). h ++ l) (append_assoc b c more)

-- with the current state, what was read is a text but for its last line
pub ends : (services : List (List ℕ)) (bound : Option ℕ) (before : List StateText)
    (current : StateText) (after : List StateText)
    → live_lines
    (record {
      services = services;
      bound = bound;
      before = before;
      current = current;
      after = after;
    }) ≡ part_lines (record {
      services = services;
      bound = bound;
      before = before;
      current =
          Some (current, after);
    }) ++ Last ∷ []
ends services bound before current after =
    ap (λ (l : List Line). head_lines services bound ++ (flat_map (state_lines false) before ++ l))
    (sym (append_assoc (state_lines true current) (flat_map (state_lines false) after) (Last ∷ [])))
    ∙ sym (three (head_lines services bound) (flat_map (state_lines false) before)
    (state_lines true current ++ flat_map (state_lines false) after) (Last ∷ []))

-- a line where no other version can stand
abbrev IsLater : Line → Type 0
IsLater due = (bytes : List ℕ) → HasOtherVersion due bytes → ⊥

-- some text has these lines, and one more
pub completes : (p : Part) → IsPart p → (t : LiveText) × (due : Line) × (more : List Line)
    × IsLiveText t × (live_lines t ≡ part_lines p ++ due ∷ more) × IsLater due
completes p is = by p.current is.current
  where
    by : (current : Option (StateText × List StateText))
        → IfSome current (λ read. IsStateText read.0 × All IsStateText read.1)
        → (t : LiveText) × (due : Line) × (more : List Line) × IsLiveText t
        × (live_lines t
        ≡ part_lines
        (record { services = p.services; bound = p.bound; before = p.before; current = current })
        ++ due ∷ more) × IsLater due
    by None tell = (
      record {
        services = p.services;
        bound = p.bound;
        before = p.before;
        current =
            record { live = []; bundles = [] };
        after = [];
      },
      OfState true [],
      Last ∷ [],
      record {
        services = is.services;
        bound = is.bound;
        before = is.before;
        current =
            nothing_up_is;
        after = All-nil IsStateText;
      },
      sym (three (head_lines p.services p.bound) (flat_map (state_lines false) p.before) []
          (OfState true [] ∷ Last ∷ [])),
      λ bytes bad. bad,
    )
    by (Some read) tell = (
      record {
        services = p.services;
        bound = p.bound;
        before = p.before;
        current =
            read.0;
        after = read.1;
      },
      Last,
      [],
      record {
        services = is.services;
        bound = is.bound;
        before = is.before;
        current =
            tell.0;
        after = tell.1;
      },
      ends p.services p.bound p.before read.0 read.1,
      λ bytes bad. bad,
    )

-- so after what was read, where no line stands that may follow it, reading is stuck
pub part_stuck : (p : Part) (bytes rest : List ℕ) → IsPart p
    → bytes ≡ spells spell (part_lines p) ++ rest
    → IsNoLineHere (place_after AtFirst (part_lines p)) rest
    → (due : Line) × IsStuckAt bytes rest due × (HasOtherVersion due rest → ⊥)
part_stuck p bytes rest is front none =
    let whole = completes p is in (
      whole.1,
      stuck_here bytes rest (part_lines p) whole.2 whole.1 whole.0 front whole.3 whole.4
          none,
      whole.5 rest,
    )

-- a state after others
pub lines_push : (ss : List StateText) (s : StateText)
    → flat_map (state_lines false) (ss ++ s ∷ []) ≡ flat_map (state_lines false) ss
    ++ state_lines false s
lines_push ss s =
    flat_map-append (state_lines false) ss (s ∷ [])
    ∙ ap (λ (l : List Line). flat_map (state_lines false) ss ++ l)
    (append-nil (state_lines false s))
