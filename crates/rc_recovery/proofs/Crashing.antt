-- What a crash of a command leaves.
use Rattle.std.proofs.Common.{◌≡◌, ◌≢◌, ◌∙◌, ◌⊎◌, inl, inr, ℕ, List, [], ◌∷◌, ◌++◌, map, refl, ap}
use Rattle.std.proofs.Common.{Bool, true, false, sym, subst, append_assoc, codes}
use Rattle.std.specs.List.{AllZip, concat}
use Rattle.std.proofs.lemmas.List.{append-nil, append_cancel_left}
use Rattle.std.proofs.lemmas.List.Elements.{All-from_recursion, recursion_from_All}
use Rattle.rc_model.specs.declared.Event.{Event}
use Rattle.rc_model.specs.Database.{Database}
use Rattle.rc_model.specs.Line.{Line}
use Rattle.rc_model.specs.Session.{Command, IsLineOf}
use Rattle.rc_model.proofs.ByteOrder.{same_or_other}
use Rattle.rc_livetext.specs.Spelling.{spelling}
use Rattle.rc_script.specs.RunLines.{IsEventLine, IsHead, mark_of}
use Rattle.rc_recovery.specs.RunLog.{IsUnfit}
use Rattle.rc_recovery.specs.Files.{AfterCrash, Append, Empty, Files, IsFront, Replace, Write}
use Rattle.rc_recovery.specs.Logging.{HoldEvents, IsLogged, Logged, log_of}
use Rattle.rc_recovery.specs.Recoveries.{AreCutRecoveries, EndsIn, EndsInOneLine, EndsOn, IsAtRest}
use Rattle.rc_recovery.specs.Recoveries.{IsCrash}
use Rattle.rc_recovery.proofs.Bytes.{Bare, bare_front, bare_line, concat_more, no_newline}
use Rattle.rc_recovery.proofs.Bytes.{nothing, one_longer, torn_line}
use Rattle.rc_recovery.proofs.Held.{kept_ends, kept_fits, none_rests, one_end_text, other_rests}
use Rattle.rc_recovery.proofs.Known.{Laws}
use Rattle.rc_recovery.proofs.Resting.{all_still, bare_rests, empty_rests, ends_still, files}

-- a front of a mark is all of it, or has no newline
mark_front : (marked : Bool) (q r : List ℕ) → mark_of marked ≡ q ++ r
    → (q ≡ mark_of marked) ⊎ Bare q
mark_front false q r is = inr (subst Bare (sym (nothing q r (sym is)).0) tt)
mark_front true q r is = torn_line (codes "# step") q (no_newline (codes "# step") refl) (r, is)

-- a front of a head is all of it; or the line of its step, and a part of its mark; or no line
head_front : (c : Command) (marked : Bool) (head : List ℕ) (is : IsHead c marked head)
    (q r : List ℕ) → head ≡ q ++ r
    → (q ≡ head) ⊎ ((p : List ℕ) × Bare p × (q ≡ is.0 ++ p)) ⊎ Bare q
head_front c marked head (step, is, at) q r all =
    elim (one_longer q step r (mark_of marked) (sym all ∙ at)) [
      | inl (s, same) ↦
          elim (torn_line is.0 q (bare_line is.0 is.1.1) (s, sym is.1.0 ∙ sym same)) [
            | inl every ↦ inr (inl ([], tt, every ∙ sym is.1.0 ∙ sym (append-nil step)))
            | inr bare ↦ inr (inr bare)
          ]
      | inr (s, same) ↦
          let mark : mark_of marked ≡ s ++ r =
          append_cancel_left step (mark_of marked) (s ++ r) (sym at ∙ all
          ∙ ap (λ (x : List ℕ). x ++ r) (sym same) ∙ append_assoc step s r) in
          elim (mark_front marked s r mark) [
            | inl every ↦ inl (sym same ∙ ap (λ (x : List ℕ). step ++ x) every ∙ sym at)
            | inr bare ↦ inr (inl (s, bare, sym same))
          ]
    ]

module _ (laws : Laws) (d : Database) (line new : Line) (l : Logged) (f : Files)
    (logged : IsLogged d line l) (new_of : IsLineOf d new) (file : f.file ≡ spelling d line)
    (begin_rest : IsAtRest d f) where
  -- the files are at rest, and their text is where it ends; or they hold the log of events
  abbrev IsLeft : Files → Type 0
  IsLeft g = ((end : Line) × IsLineOf d end × (g.file ≡ spelling d end) × IsAtRest d g
      × EndsOn d line new l f g end)
      ⊎ ((first : Event) × (more : List Event) × HoldEvents d line l (first ∷ more) g)

  held_left : (events : List Event) (g : Files) → HoldEvents d line l events g → IsLeft g
  held_left [] g held = inl (
    line,
    logged.line_of,
    ap (λ (x : Files). x.file) held.files,
    none_rests laws d line l logged g held,
    inr (inl ([], held, refl)),
  )
  held_left (first ∷ more) g held = inr (first, more, held)

  -- events are logged, and a part of a line
  holds : (events left : List Event) (lines : List (List ℕ)) (part : List ℕ) (g : Files)
      → l.events ≡ events ++ left → AllZip (IsEventLine d.names) events lines → Bare part
      → g ≡ files (spelling d line) (log_of (spelling d line) l.step lines ++ part) → IsLeft g
  holds events left lines part g front are bare at = held_left events g (record {
    left = left;
    lines = lines;
    part = part;
    front = front;
    lines_are = are;
    torn = All-from_recursion (λ byte. byte ≢ 10) part bare;
    files = at;
  })

  abbrev the_log : List (List ℕ) → List ℕ
  the_log lines = log_of (spelling d line) l.step lines

  whole : (events left : List Event) (lines : List (List ℕ)) (g : Files)
      → l.events ≡ events ++ left → AllZip (IsEventLine d.names) events lines
      → g ≡ files (spelling d line) (the_log lines) → IsLeft g
  whole events left lines g front are at = holds events left lines [] g front are tt
      (at ∙ ap (files (spelling d line)) (sym (append-nil (the_log lines))))

  more_log : (lines : List (List ℕ)) (t : List ℕ) → the_log lines ++ t ≡ the_log (lines ++ t ∷ [])
  more_log lines t =
      append_assoc (spelling d line) (l.step ++ concat lines) t
      ∙ ap (λ (x : List ℕ). spelling d line ++ x) (append_assoc l.step (concat lines) t
      ∙ ap (λ (x : List ℕ). l.step ++ x) (sym (concat_more lines t)))

  bare_part : Bare l.part
  bare_part = recursion_from_All (λ byte. byte ≢ 10) l.part logged.torn

  -- the writes after the lines of the events
  abbrev last_writes : List Write
  last_writes = Append l.part ∷ Replace (spelling d new) ∷ Empty ∷ []

  -- the file is replaced
  replaced : (lines : List (List ℕ)) (g : Files) → AllZip (IsEventLine d.names) l.events lines
      → g ≡ files (spelling d new) (the_log lines ++ l.part) → IsLeft g
  replaced lines g are at = elim (same_or_other (spelling d new) (spelling d line)) [
    | inl same ↦ holds l.events [] lines l.part g (sym (append-nil l.events)) are bare_part
        (at ∙ ap (λ (t : List ℕ). files t (the_log lines ++ l.part)) same)
    | inr differ ↦ inl (
      new,
      new_of,
      ap (λ (x : Files). x.file) at,
      subst (IsAtRest d) (sym at) (other_rests laws d line l logged new (the_log lines ++ l.part)
          ((l.step ++ concat lines) ++ l.part) new_of differ
          (append_assoc (spelling d line) (l.step ++ concat lines) l.part)),
      inr (inr (refl, ap (λ (x : Files). x.file) at)),
    )
  ]

  emptied : (g : Files) → g ≡ files (spelling d new) [] → IsLeft g
  emptied g at = inl (
    new,
    new_of,
    ap (λ (x : Files). x.file) at,
    subst (IsAtRest d) (sym at) (empty_rests laws.scripts d (spelling d new)),
    inr (inr (refl, ap (λ (x : Files). x.file) at)),
  )

  -- events are logged one after the other
  logs : (left done : List Event) (rest lines : List (List ℕ)) (g : Files)
      → l.events ≡ done ++ left → AllZip (IsEventLine d.names) done lines
      → AllZip (IsEventLine d.names) left rest
      → AfterCrash (map Append rest ++ last_writes) (files (spelling d line) (the_log lines)) g
      → IsLeft g
  logs [] done [] lines g front are more crash =
      let all : AllZip (IsEventLine d.names) l.events lines =
      subst (λ (es : List Event). AllZip (IsEventLine d.names) es lines)
      (sym (append-nil done) ∙ sym front) are
      in
      elim crash [
        | inl at ↦ whole done [] lines g front are at
        | inr (inl (part, is, at)) ↦ holds done [] lines part g front are
            (bare_front part is.0 (subst Bare is.1 bare_part)) at
        | inr (inr (inl at)) ↦ holds done [] lines l.part g front are bare_part at
        | inr (inr (inr (inl at))) ↦ holds done [] lines l.part g front are bare_part at
        | inr (inr (inr (inr (inl at)))) ↦ replaced lines g all at
        | inr (inr (inr (inr (inr (inl at))))) ↦ replaced lines g all at
        | inr (inr (inr (inr (inr (inr at))))) ↦ emptied g at
      ]
  logs [] done (t ∷ rest) lines g front are more crash = absurd more
  logs (e ∷ left) done [] lines g front are more crash = absurd more
  logs (e ∷ left) done (t ∷ rest) lines g front are more crash =
      let next : l.events ≡ (done ++ e ∷ []) ++ left =
      front ∙ sym (append_assoc done (e ∷ []) left)
      in
      let both : AllZip (IsEventLine d.names) (done ++ e ∷ []) (lines ++ t ∷ []) =
      push done lines e t are more.0
      in
      elim crash [
        | inl at ↦ whole done (e ∷ left) lines g front are at
        | inr (inl (part, is, at)) ↦
            elim (torn_line more.0.0 part (bare_line more.0.0 more.0.1.1)
            (subst (IsFront part) more.0.1.0 is)) [
              | inl every ↦ whole (done ++ e ∷ []) left (lines ++ t ∷ []) g next both
                  (at ∙ ap (λ (p : List ℕ). files (spelling d line) (the_log lines ++ p))
                  (every ∙ sym more.0.1.0) ∙ ap (files (spelling d line)) (more_log lines t))
              | inr bare ↦ holds done (e ∷ left) lines part g front are bare at
            ]
        | inr (inr later) ↦ logs left (done ++ e ∷ []) rest (lines ++ t ∷ []) g next both more.1
            (subst (λ (x : List ℕ). AfterCrash (map Append rest ++ last_writes)
            (files (spelling d line) x) g) (more_log lines t) later)
      ]
    where
      push : (es : List Event) (ls : List (List ℕ)) (x : Event) (y : List ℕ)
          → AllZip (IsEventLine d.names) es ls → IsEventLine d.names x y
          → AllZip (IsEventLine d.names) (es ++ x ∷ []) (ls ++ y ∷ [])
      push [] [] x y so is = (is, tt)
      push [] (y' ∷ ls) x y so is = absurd so
      push (x' ∷ es) [] x y so is = absurd so
      push (x' ∷ es) (y' ∷ ls) x y so is = (so.0, push es ls x y so.1 is)

  -- nothing is entered of a log that is not begun yet
  begun_rests : (g : Files) (q : List ℕ) → Bare q
      → g ≡ files (spelling d line) (spelling d line ++ q)
      → IsAtRest d g
  begun_rests g q bare at = subst (IsAtRest d) (sym at)
      (bare_rests laws.scripts d (spelling d line) (spelling d line ++ q)
      (λ rest is. subst Bare (append_cancel_left (spelling d line) q rest is) bare))

  -- nor of one that has the line of its step, and at most a part of its mark
  unmarked_rests : (g : Files) (p : List ℕ) → Bare p
      → g ≡ files (spelling d line) (spelling d line ++ (logged.step_is.0 ++ p)) → IsAtRest d g
  unmarked_rests g p bare at =
      let text : List ℕ = spelling d line in
      let step : List ℕ = logged.step_is.0 in
      none_rests laws d line (record {
        command = l.command;
        marked = false;
        step = step;
        events = l.events;
        lines = l.lines;
        part = l.part;
      }) (record {
        database = logged.database;
        line_of = logged.line_of;
        begins = logged.begins;
        step_is = (step, logged.step_is.1, sym (append-nil step));
        lines_are = logged.lines_are;
        torn = logged.torn;
      }) g (record {
        left = l.events;
        lines = [];
        part = p;
        front = refl;
        lines_are = tt;
        torn = All-from_recursion (λ byte. byte ≢ 10) p bare;
        files =
            at ∙ ap (λ (x : List ℕ). files text (text ++ (x ++ p))) (sym (append-nil step))
            ∙ ap (files text) (sym (append_assoc text (step ++ []) p));
      })

  short_rests : (g : Files) (part q : List ℕ) → part ++ q ≡ spelling d line
      → g ≡ files (spelling d line) part → IsAtRest d g
  short_rests g part q is at = subst (IsAtRest d) (sym at)
      (bare_rests laws.scripts d (spelling d line) part (λ rest same.
      let text : List ℕ = spelling d line in
      let none : rest ++ q ≡ [] =
      append_cancel_left text (rest ++ q) [] (sym (append_assoc text rest q)
      ∙ ap (λ (x : List ℕ). x ++ q) (sym same) ∙ is ∙ sym (append-nil text))
      in
      subst Bare (sym (nothing rest q none).0) tt))

  unlogged : (g : Files) (part : List ℕ) → IsFront part (spelling d line ++ l.step)
      → g ≡ files (spelling d line) part → IsAtRest d g → IsLeft g
  unlogged g part is at rest = inl (
    line,
    logged.line_of,
    ap (λ (x : Files). x.file) at,
    rest,
    inl (
      refl,
      ap (λ (x : Files). x.file) at,
      inr (subst (λ (x : Files). IsFront x.log (spelling d line ++ l.step)) (sym at) is),
    ),
  )

  begins : (g : Files) (part : List ℕ) → IsFront part (spelling d line ++ l.step)
      → g ≡ files (spelling d line) part → IsLeft g
  begins g part is at =
      let text : List ℕ = spelling d line in
      elim (one_longer text part l.step is.0 is.1) [
        | inl (q, same) ↦
            let all : l.step ≡ q ++ is.0 =
            append_cancel_left text l.step (q ++ is.0)
            (is.1 ∙ ap (λ (x : List ℕ). x ++ is.0) (sym same)
            ∙ append_assoc text q is.0)
            in
            let there : g ≡ files text (text ++ q) = at ∙ ap (files text) (sym same) in
            elim (head_front l.command l.marked l.step logged.step_is q is.0 all) [
              | inl every ↦ whole [] l.events [] g refl tt
                  (there ∙ ap (λ (x : List ℕ). files text (text ++ x))
                  (every ∙ sym (append-nil l.step)))
              | inr (inl (p, bare, torn)) ↦ unlogged g part is at (unmarked_rests g p bare
                  (there ∙ ap (λ (x : List ℕ). files text (text ++ x)) torn))
              | inr (inr bare) ↦ unlogged g part is at (begun_rests g q bare there)
            ]
        | inr (q, same) ↦ unlogged g part is at (short_rests g part q same at)
      ]

  -- at whatever point the crash came
  left_of : (g : Files) → IsCrash d line new l f g → IsLeft g
  left_of g c = elim c.crash [
    | inl same ↦ unbegun same
    | inr (inl same) ↦ unbegun same
    | inr (inr (inl at)) ↦ begins g [] (spelling d line ++ l.step, refl) (here at)
    | inr (inr (inr (inl (part, is, at)))) ↦ begins g part is (here at)
    | inr (inr (inr (inr later))) ↦ logs l.events [] l.lines [] g refl tt logged.lines_are
        (subst (λ (x : Files). AfterCrash (map Append l.lines ++ last_writes) x g) begun later)
  ]
    where
      here : {log : List ℕ} → g ≡ files f.file log → g ≡ files (spelling d line) log
      here {log} at = at ∙ ap (λ (t : List ℕ). files t log) file

      unbegun : g ≡ f → IsLeft g
      unbegun same = inl (
        line,
        logged.line_of,
        ap (λ (x : Files). x.file) same ∙ file,
        subst (IsAtRest d) (sym same) begin_rest,
        inl (refl, ap (λ (x : Files). x.file) same ∙ file, inl same),
      )

      begun : files f.file (spelling d line ++ l.step) ≡ files (spelling d line) (the_log [])
      begun = ap (λ (t : List ℕ). files t (spelling d line ++ l.step)) file
          ∙ ap (λ (x : List ℕ). files (spelling d line) (spelling d line ++ x))
          (sym (append-nil l.step))

  ends_on : (g : Files) (text : List ℕ) → IsLeft g → EndsIn d g text
      → (end : Line) × IsLineOf d end × (text ≡ spelling d end) × EndsOn d line new l f g end
  ends_on g text (inl (end, of, spelled, rest, on)) ends =
      (end, of, ends_still laws.scripts d g text rest ends ∙ spelled, on)
  ends_on g text (inr (first, more, held)) ends =
      let there = kept_ends laws d line l logged first more g held text ends in
      (there.0, there.1, there.3, inr (inl (first ∷ more, held, there.2)))

  one_text : (g : Files) (text other : List ℕ) → IsLeft g → EndsIn d g text → EndsIn d g other
      → text ≡ other
  one_text g text other (inl (end, of, spelled, rest, on)) a b =
      ends_still laws.scripts d g text rest a ∙ sym (ends_still laws.scripts d g other rest b)
  one_text g text other (inr (first, more, held)) a b =
      one_end_text laws d line l logged first more g held text other
      (kept_ends laws d line l logged first more g held text a)
      (kept_ends laws d line l logged first more g held other b)

  fits_all : (g : Files) (left : List Files) (h : Files) → IsLeft g
      → AreCutRecoveries d g left h → IsUnfit d h.file h.log → ⊥
  fits_all g left h (inl (end, of, spelled, rest, on)) recoveries unfit =
      (all_still laws.scripts d g left h rest recoveries).1.fits unfit
  fits_all g left h (inr (first, more, held)) recoveries unfit =
      kept_fits laws d line l logged first more g held left h recoveries unfit

pub crashed : Laws → (d : Database) (line new : Line) (l : Logged) (f g : Files)
    → IsCrash d line new l f g → EndsInOneLine d line new l f g
crashed laws d line new l f g c =
    let is = left_of laws d line new l f c.logged c.new_of c.file c.rest g c in
    record {
      ends = λ text a. ends_on laws d line new l f c.logged c.new_of c.file c.rest g text is a;
      one = λ text other a b.
          one_text laws d line new l f c.logged c.new_of c.file c.rest g text other is a b;
      fits = λ left h recoveries unfit. fits_all laws d line new l f c.logged c.new_of c.file c.rest
          g left h is recoveries unfit;
    }
