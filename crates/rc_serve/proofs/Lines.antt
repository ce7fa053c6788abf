-- One line after another.
use Rattle.std.proofs.Common.{◌≡◌, ◌∙◌, ◌⊎◌, inl, inr, ℕ, ◌+◌, ◌-◌, ◌<◌, ◌≤◌, Bool, true, false}
use Rattle.std.proofs.Common.{List, [], ◌∷◌, ◌++◌, Option, Result, Err, IfErr, length, take, ap}
use Rattle.std.proofs.Common.{sym, refl, subst, arith, append_assoc, length-append}
use Rattle.std.proofs.lemmas.List.{append-nil}
use Rattle.std.proofs.lemmas.List.Elements.{All-nil, All-push}
use Rattle.std.specs.List.{flat_map}
use Rattle.std.specs.Io.KnownBytes.{Appends}
use Rattle.std.proofs.KnownBytes.{Appends-nil, Appends-trans, Consumes-nil, Consumes-trans}
use Rattle.rc_model.specs.Database.{Database}
use Rattle.rc_model.specs.Line.{Line}
use Rattle.rc_model.proofs.Lists.{one_more}
use Rattle.rc_session.specs.Holding.{Holding}
use Rattle.rc_render.specs.Lines.{line}
use Rattle.rc_streams.specs.Exchange.{Exchange}
use Rattle.rc_streams.specs.Input.{AppendsFront, ConsumesAtMost}
use Rattle.rc_streams.specs.Taking.{Held, BeginsTooLong, HandsLine, HandsNothing, HandsOut, IsLine}
use Rattle.rc_streams.specs.Taking.{Takes, fresh}
use Rattle.rc_streams.specs.declared.input.Failure.{Failure}
use Rattle.rc_streams.specs.declared.input.Failure.TheVariants as failures
use Rattle.rc_serve.specs.declared.fault.ServeFault.{ServeFault}
use Rattle.rc_serve.specs.declared.fault.ServeFault.TheVariants.{Read, Write, TooLong, Memory}
use Rattle.rc_serve.specs.declared.fault.ServeFault.TheVariants.{NoThread, Strange, Workers, Io}
use Rattle.rc_serve.specs.declared.keeper.KeepFault.{KeepFault}
use Rattle.rc_serve.specs.Faults.{EndsSession, IsOfLine, IsServeFault, Spoils, StandsAt, of_failure}
use Rattle.rc_serve.specs.Meeting.{Doing}
use Rattle.rc_serve.specs.Serving.{AreLines, IsServing, MeetsBytes, NextWantsWork, Serves}
use Rattle.rc_serve.specs.Serving.{ServesAll, ServesFront, Stays}
use Rattle.rc_serve.specs.Keeping.{AltersNone, Keeping, IsKeptAt, IsKeptOn, IsKeptUp, IsOfKeeping}
use Rattle.rc_serve.specs.Keeping.{ServesFrontKept}
use Rattle.rc_serve.proofs.Keeping.{EndsLine, IsKeptOrFails, kept_more, kept_none}

-- the next line of the input was met, and its answer written; where none follows, that was
-- the last one, or there was none
abbrev pub ServesNext : Doing → (more : Bool) → Exchange → Held → Held → Holding → Holding → Type 0
ServesNext Done true io before after old new = (bytes : List ℕ) × (text : List ℕ)
    × HandsLine true io.input io.left before after bytes
    × MeetsBytes Done old.database old.line bytes text new.line × Appends io.written io.gained text
ServesNext Done false io before after old new =
    ((bytes : List ℕ) × (text : List ℕ) × HandsLine false io.input io.left before after bytes
    × MeetsBytes Done old.database old.line bytes text new.line × Appends io.written io.gained text)
    ⊎ (HandsNothing io.input io.left before after × (new.line ≡ old.line)
    × (io.gained ≡ io.written))

-- a fault came: with no further line met, nothing written, and what stands kept as it was; or with
-- one more met, and a prefix of its answer written, of which there is something only where what it
-- leaves is kept
abbrev pub StopsAt : Doing → ServeFault → (May : KeepFault → Type 0) → (was is : Keeping)
    → Exchange → Held → Held → Holding → Holding → Type 0
StopsAt Done fault May was is io before after old new =
    ((takes : Takes io.input io.left before.taken after.taken) × (new.line ≡ old.line)
    × (io.gained ≡ io.written)
    × StandsAt fault (old.spoiled ≡ true)
    (NextWantsWork old.database old.line (before.pending ++ takes.bytes))
    after.taken (before.pending ++ takes.bytes)
    × IsKeptUp was is old.database old.line new.line)
    ⊎ (IsOfLine fault × (ends : Bool) × (bytes : List ℕ) × (text : List ℕ)
    × HandsLine ends io.input io.left before after bytes
    × MeetsBytes Done old.database old.line bytes text new.line
    × (n : ℕ) × Appends io.written io.gained (take n text)
    × (IsKeptUp was is old.database old.line new.line
    ⊎ (IsOfKeeping May fault × (n ≡ 0) × IsKeptOn was is)))

-- the exchange of these
abbrev pub over : (input left written gained : Option (List ℕ)) → Exchange
over input left written gained = record {
  input = input;
  left = left;
  written = written;
  gained = gained;
}

-- one more line is met
pub serves_more : (Done : Doing) (d : Database) (here : Line) (lines : List (List ℕ))
    (text : List ℕ) (mid : Line) (bytes first : List ℕ) (new : Line)
    → Serves Done d here lines text mid → MeetsBytes Done d mid bytes first new
    → Serves Done d here (lines ++ bytes ∷ []) (text ++ first) new
serves_more Done d here [] text mid bytes first new served met =
    let there = subst (λ (l : Line). MeetsBytes Done d l bytes first new) served.1 met in (
      first,
      new,
      [],
      there,
      (refl, refl),
      ap (λ (t : List ℕ). t ++ first) served.0
          ∙ sym (append-nil first),
    )
serves_more Done d here (x ∷ lines) text mid bytes first new served met =
    let (one, next, others, here_met, rest, whole) = served in (
      one,
      next,
      others ++ first,
      here_met,
      serves_more Done d next lines others mid bytes first new rest met,
      ap (λ (t : List ℕ). t ++ first) whole ∙ append_assoc one others first,
    )

-- lines are served, and then others
pub serves_both : (Done : Doing) (d : Database) (here : Line) (lines : List (List ℕ))
    (text : List ℕ) (mid : Line) (more : List (List ℕ)) (answer : List ℕ) (new : Line)
    → Serves Done d here lines text mid → Serves Done d mid more answer new
    → Serves Done d here (lines ++ more) (text ++ answer) new
serves_both Done d here [] text mid more answer new served next =
    subst (λ (t : List ℕ). Serves Done d here more (t ++ answer) new) (sym served.0)
    (subst (λ (l : Line). Serves Done d l more answer new) served.1 next)
serves_both Done d here (bytes ∷ lines) text mid more answer new
    (first, on, others, met, rest, whole) next = (
      first,
      on,
      others ++ answer,
      met,
      serves_both Done d on lines others mid more answer new rest next,
      ap (λ (t : List ℕ). t ++ answer) whole ∙ append_assoc first others answer,
    )

-- what was handed out, and then the next part
pub hands_on : (old here new : Option (List ℕ)) (before held after : Held) (front more : List ℕ)
    → HandsOut old here before held front → HandsOut here new held after more
    → HandsOut old new before after (front ++ more)
hands_on old here new before held after front more first next = record {
  bytes = first.bytes ++ next.bytes;
  consumed = Consumes-trans old here new first.bytes next.bytes first.consumed next.consumed;
  counted = omega (arith, first.counted, next.counted, length-append first.bytes next.bytes);
  split =
      sym (append_assoc before.pending first.bytes next.bytes)
      ∙ (ap (λ (t : List ℕ). t ++ next.bytes) first.split
      ∙ (append_assoc front held.pending next.bytes
      ∙ (ap (λ (t : List ℕ). front ++ t) next.split
      ∙ sym (append_assoc front more after.pending))));
}

-- one more line with its newline
pub serving_on : (Done : Doing) (input here left : Option (List ℕ)) (held after : Held)
    (written mid gained : Option (List ℕ)) (old now new : Holding)
    → IsServing Done (over input here written mid) held old now
    → ServesNext Done true (over here left mid gained) held after now new → Stays now new
    → new.spoiled ≡ now.spoiled → after.taken ≤ 16777217
    → IsServing Done (over input left written gained) after old new
serving_on Done input here left held after written mid gained old now new so next
    stays whole within =
    let (bytes, text, handed, met, told) = next in
    record {
      lines = so.lines ++ bytes ∷ [];
      text = so.text ++ text;
      each = All-push IsLine so.lines bytes so.each handed.0;
      hands =
          subst (λ (t : List ℕ). HandsOut input left fresh after t)
          (sym (one_more line so.lines bytes))
          (hands_on input here left fresh held after (flat_map line so.lines) (line bytes)
          so.hands handed.1);
      met =
          serves_more Done old.database old.line so.lines so.text now.line bytes text new.line
          so.met (subst (λ (d : Database). MeetsBytes Done d now.line bytes text new.line)
          so.stays.0 met);
      told = Appends-trans written mid gained so.text text so.told told;
      stays = (stays.0 ∙ so.stays.0, stays.1);
      whole = whole ∙ so.whole;
      within = within;
    }

-- the input is at its end
pub serves_all : (Done : Doing) (input here left : Option (List ℕ)) (held after : Held)
    (written mid gained : Option (List ℕ)) (old now new : Holding)
    → IsServing Done (over input here written mid) held old now
    → ServesNext Done false (over here left mid gained) held after now new
    → ServesAll Done (over input left written gained) old new
serves_all Done input here left held after written mid gained old now new so (inl next) =
    let (bytes, text, handed, met, told) = next in
    let (one, hands, some, ended) = handed in
    let (none, end, within) = ended in
    let all =
    hands_on input here left fresh held after (flat_map line so.lines) bytes so.hands hands in
    record {
      bytes = all.bytes;
      lines = so.lines ++ bytes ∷ [];
      text = so.text ++ text;
      consumed = all.consumed;
      end = end;
      within = omega (arith, all.counted, within);
      spelled = (
        All-push IsLine so.lines bytes so.each one,
        inr (
          so.lines,
          bytes,
          refl,
          some,
          all.split ∙ (ap (λ (t : List ℕ). (flat_map line so.lines ++ bytes) ++ t) none
              ∙ append-nil (flat_map line so.lines ++ bytes)),
          refl,
        ),
      );
      met =
          serves_more Done old.database old.line so.lines so.text now.line bytes text new.line
          so.met (subst (λ (d : Database). MeetsBytes Done d now.line bytes text new.line)
          so.stays.0 met);
      told = Appends-trans written mid gained so.text text so.told told;
    }
serves_all Done input here left held after written mid gained old now new so (inr next) =
    let (handed, same, kept) = next in
    let (hands, ended) = handed in
    let (none, end, within) = ended in
    let all =
    hands_on input here left fresh held after (flat_map line so.lines) [] so.hands hands in
    record {
      bytes = all.bytes;
      lines = so.lines;
      text = so.text;
      consumed = all.consumed;
      end = end;
      within = omega (arith, all.counted, within);
      spelled = (
        so.each,
        inl (all.split ∙ ap (λ (t : List ℕ). (flat_map line so.lines ++ []) ++ t) none
            ∙ append-nil (flat_map line so.lines ++ [])),
      );
      met =
          subst (λ (l : Line). Serves Done old.database old.line so.lines so.text l)
          (sym same) so.met;
      told = subst (λ (c : Option (List ℕ)). Appends written c so.text) (sym kept) so.told;
    }

-- a fault stands for other reasons that follow, where as many bytes were read
pub stands_as : (fault : ServeFault) (P Q W X : Type 0) (taken count : ℕ) (rest : List ℕ) → (P → Q)
    → (W → X) → taken ≡ count → StandsAt fault P W taken rest → StandsAt fault Q X count rest
stands_as Read P Q W X taken count rest spoiled work is stands =
    (stands.0, omega (arith, is, stands.1))
stands_as Write P Q W X taken count rest spoiled work is stands = tt
stands_as TooLong P Q W X taken count rest spoiled work is stands =
    subst (λ (n : ℕ). (IsLine rest × (16777216 < n)) ⊎ BeginsTooLong rest) is stands
stands_as Memory P Q W X taken count rest spoiled work is stands = tt
stands_as NoThread P Q W X taken count rest spoiled work is stands = work stands
stands_as Strange P Q W X taken count rest spoiled work is stands =
    elim stands [ inl was ↦ inl (spoiled was) | inr wants ↦ inr (work wants) ]
stands_as Workers P Q W X taken count rest spoiled work is stands = tt
stands_as Io P Q W X taken count rest spoiled work is stands = tt

-- one line is met
serves_one : (Done : Doing) (d : Database) (here : Line) (bytes text : List ℕ) (new : Line)
    → MeetsBytes Done d here bytes text new → Serves Done d here (bytes ∷ []) text new
serves_one Done d here bytes text new met =
    (text, new, [], met, (refl, refl), sym (append-nil text))

-- the line that stands is kept, or the one before it, and nothing was written of the answer
front_kept : (fault : ServeFault) (May : KeepFault → Type 0) (first was is : Keeping)
    (old now new : Holding) (n : ℕ) → now.database ≡ old.database
    → IsKeptUp was is now.database now.line new.line
    ⊎ (IsOfKeeping May fault × (n ≡ 0) × IsKeptOn was is)
    → IsKeptUp first was old.database old.line now.line
    → IsKeptAt fault May first is old.database old.line now.line new.line n
front_kept fault May first was is old now new n same (inl keeps) kept =
    inl (kept_more first was is old.database old.line now.line new.line kept
    (subst (λ (d : Database). IsKeptUp was is d now.line new.line) same keeps))
front_kept fault May first was is old now new n same (inr (so, none, on)) kept =
    inr (
      so,
      none,
      kept_more first was is old.database old.line now.line now.line kept
          (inr (on, refl)),
    )

front_line : (Done : Doing) (fault : ServeFault) (May : KeepFault → Type 0) (first was is : Keeping)
    (input here left : Option (List ℕ)) (held after : Held) (written mid gained : Option (List ℕ))
    (old now new : Holding) (ends : Bool) (bytes text : List ℕ) → IsOfLine fault
    → IsServing Done (over input here written mid) held old now
    → HandsLine ends here left held after bytes
    → MeetsBytes Done now.database now.line bytes text new.line
    → (told : AppendsFront mid gained text) → IsKeptUp was is now.database now.line new.line
    ⊎ (IsOfKeeping May fault × (told.0 ≡ 0) × IsKeptOn was is)
    → IsKeptUp first was old.database old.line now.line
    → ServesFrontKept Done fault May first is (over input left written gained) old new
front_line Done fault May first was is input here left held after written mid gained old now new
    true bytes text of so handed met told keeps kept =
    let all = hands_on input here left fresh held after (flat_map line so.lines) (line bytes)
    so.hands handed.1 in (
      record {
        bytes = all.bytes;
        rest = after.pending;
        lines = so.lines;
        text = so.text;
        here = now.line;
        more = bytes ∷ [];
        answer = text;
        consumed = all.consumed;
        spelled = (
          All-push IsLine so.lines bytes so.each handed.0,
          inl (all.split ∙ ap (λ (t : List ℕ). t ++ after.pending)
              (sym (one_more line so.lines bytes))),
        );
        met = so.met;
        one = omega arith;
        met_more =
            serves_one Done old.database now.line bytes text new.line
            (subst (λ (d : Database). MeetsBytes Done d now.line bytes text new.line)
            so.stays.0 met);
        told = (told.0, Appends-trans written mid gained so.text (take told.0 text) so.told told.1);
        stands = inl of;
      },
      front_kept fault May first was is old now new told.0 so.stays.0 keeps kept,
    )
front_line Done fault May first was is input here left held after written mid gained old now new
    false bytes text of so handed met told keeps kept =
    let (one, hands, some, ended) = handed in
    let (none, end, within) = ended in
    let all =
    hands_on input here left fresh held after (flat_map line so.lines) bytes so.hands hands in (
      record {
        bytes = all.bytes;
        rest = [];
        lines = so.lines;
        text = so.text;
        here = now.line;
        more = bytes ∷ [];
        answer = text;
        consumed = all.consumed;
        spelled = (
          All-push IsLine so.lines bytes so.each one,
          inr (
            so.lines,
            bytes,
            refl,
            some,
            all.split ∙ (ap (λ (t : List ℕ). (flat_map line so.lines ++ bytes) ++ t) none
                ∙ append-nil (flat_map line so.lines ++ bytes)),
            refl,
          ),
        );
        met = so.met;
        one = omega arith;
        met_more =
            serves_one Done old.database now.line bytes text new.line
            (subst (λ (d : Database). MeetsBytes Done d now.line bytes text new.line)
            so.stays.0 met);
        told = (told.0, Appends-trans written mid gained so.text (take told.0 text) so.told told.1);
        stands = inl of;
      },
      front_kept fault May first was is old now new told.0 so.stays.0 keeps kept,
    )

-- what the next line wants, it wants of the same database and line of states
wants_as : (d e : Database) (here there : Line) (bytes : List ℕ) → d ≡ e → there ≡ here
    → NextWantsWork d here bytes → NextWantsWork e there bytes
wants_as d e here there bytes same still wants =
    subst (λ (b : Database). NextWantsWork b there bytes) same
    (subst (λ (l : Line). NextWantsWork d l bytes) (sym still) wants)

-- a fault came
pub serves_front : (Done : Doing) (fault : ServeFault) (May : KeepFault → Type 0)
    (first was is : Keeping) (input here left : Option (List ℕ)) (held after : Held)
    (written mid gained : Option (List ℕ)) (old now new : Holding)
    → IsServing Done (over input here written mid) held old now
    → IsKeptUp first was old.database old.line now.line
    → StopsAt Done fault May was is (over here left mid gained) held after now new
    → ServesFrontKept Done fault May first is (over input left written gained) old new
serves_front Done fault May first was is input here left held after written mid gained old now new
    so before (inl stop) =
    let (takes, same, kept, stands, keeps) = stop in
    let told = subst (λ (c : Option (List ℕ)). Appends written c so.text) (sym kept) so.told in (
      record {
        bytes = so.hands.bytes ++ takes.bytes;
        rest = held.pending ++ takes.bytes;
        lines = so.lines;
        text = so.text;
        here = now.line;
        more = [];
        answer = [];
        consumed =
            Consumes-trans input here left so.hands.bytes takes.bytes so.hands.consumed
            takes.consumed;
        spelled =
            subst (λ (all : List (List ℕ)). AreLines all (so.hands.bytes ++ takes.bytes)
            (held.pending ++ takes.bytes)) (sym (append-nil so.lines)) (
              so.each,
              inl (ap (λ (t : List ℕ). t ++ takes.bytes) so.hands.split
                  ∙ append_assoc (flat_map line so.lines) held.pending takes.bytes),
            );
        met = so.met;
        one = omega arith;
        met_more = (refl, same);
        told =
            (0, subst (λ (t : List ℕ). Appends written gained t) (sym (append-nil so.text)) told);
        stands = inr (
          refl,
          stands_as fault (now.spoiled ≡ true) (old.spoiled ≡ true)
              (NextWantsWork now.database now.line (held.pending ++ takes.bytes))
              (NextWantsWork old.database new.line (held.pending ++ takes.bytes))
              after.taken (length (so.hands.bytes ++ takes.bytes)) (held.pending ++ takes.bytes)
              (λ was. sym so.whole ∙ was)
              (wants_as now.database old.database now.line new.line (held.pending ++ takes.bytes)
              so.stays.0 same)
              (omega (
                arith,
                so.hands.counted,
                takes.counted,
                length-append so.hands.bytes takes.bytes,
              )) stands,
        );
      },
      inl (kept_more first was is old.database old.line now.line new.line before
          (subst (λ (d : Database). IsKeptUp was is d now.line new.line) so.stays.0 keeps)),
    )
serves_front Done fault May first was is input here left held after written mid gained old now new
    so before (inr stop) =
    let (of, ends, bytes, text, handed, met, n, told, keeps) = stop in
    front_line Done fault May first was is input here left held after written mid gained old now new
    ends bytes text of so handed met (n, told) keeps before

-- the line that was handed out is the next one of what was held and read
pub next_line : (ends : Bool) (input left : Option (List ℕ)) (held after : Held) (bytes : List ℕ)
    → HandsLine ends input left held after bytes
    → (takes : Takes input left held.taken after.taken) × (rest : List ℕ)
    × AreLines (bytes ∷ []) (held.pending ++ takes.bytes) rest
next_line true input left held after bytes (one, hands) = (
  record { bytes = hands.bytes; consumed = hands.consumed; counted = hands.counted },
  after.pending,
  (
    All-push IsLine [] bytes (All-nil IsLine) one,
    inl (hands.split ∙ ap (λ (t : List ℕ). t ++ after.pending) (sym (one_more line [] bytes))),
  ),
)
next_line false input left held after bytes (one, hands, some, ended) = (
  record { bytes = hands.bytes; consumed = hands.consumed; counted = hands.counted },
  [],
  (
    All-push IsLine [] bytes (All-nil IsLine) one,
    inr (
      [],
      bytes,
      refl,
      some,
      hands.split ∙ (ap (λ (t : List ℕ). bytes ++ t) ended.0 ∙ append-nil bytes),
      refl,
    ),
  ),
)

-- what is kept where the line of states is as it was, and where nothing was written
pub still_kept : (fault : ServeFault) (May : KeepFault → Type 0) (was is : Keeping) (d : Database)
    (here new : Line) → new ≡ here → IsKeptOrFails fault May was is d here new
    → IsKeptUp was is d here new
still_kept fault May was is d here new same (inl kept) = kept
still_kept fault May was is d here new same (inr failed) = inr (failed.1, same)

pub unwritten_kept : (fault : ServeFault) (May : KeepFault → Type 0) (was is : Keeping)
    (d : Database) (here new : Line) → IsKeptOrFails fault May was is d here new
    → IsKeptUp was is d here new ⊎ (IsOfKeeping May fault × (◌≡◌ {A = ℕ} 0 0) × IsKeptOn was is)
unwritten_kept fault May was is d here new (inl kept) = inl kept
unwritten_kept fault May was is d here new (inr failed) = inr (failed.0, refl, failed.1)

-- the answer could not be written
pub write_fault : {A : Type 0} (failure : Failure)
    → ◌≡◌ {A = Result A Failure} (Err failure) (Err failures.Write) → IsOfLine (of_failure failure)
write_fault {A} failure is =
    subst (λ (r : Result A Failure). IfErr r (λ f. IsOfLine (of_failure f))) (sym is) tt

-- as the writer's
pub fails_writing : {A : Type 0} (failure : Failure) (reader writer keeper : Type 0)
    → ◌≡◌ {A = Result A Failure} (Err failure) (Err failures.Write) → writer
    → IsServeFault reader writer keeper (of_failure failure)
fails_writing {A} failure reader writer keeper is failed =
    subst (λ (r : Result A Failure). IfErr r
    (λ f. IsServeFault reader writer keeper (of_failure f)))
    (sym is) failed

-- and it was written
pub serves_next : (Done : Doing) (ends : Bool) (io : Exchange) (held after : Held)
    (old new : Holding) (bytes text : List ℕ) → HandsLine ends io.input io.left held after bytes
    → MeetsBytes Done old.database old.line bytes text new.line
    → Appends io.written io.gained text → ServesNext Done ends io held after old new
serves_next Done true io held after old new bytes text handed met told =
    (bytes, text, handed, met, told)
serves_next Done false io held after old new bytes text handed met told =
    inl (bytes, text, handed, met, told)

-- a device or its bound poisons no session
pub spoils_failure : (failure : Failure) (h : Holding) → Spoils (of_failure failure) h h
spoils_failure failures.Read h = refl
spoils_failure failures.Write h = refl
spoils_failure failures.TooLong h = refl
spoils_failure failures.Memory h = refl

-- a session is poisoned as one before it was that is poisoned alike
pub spoils_on : (fault : ServeFault) (old now new : Holding) → now.spoiled ≡ old.spoiled
    → Spoils fault now new → Spoils fault old new
spoils_on Read old now new same spoils = spoils ∙ same
spoils_on Write old now new same spoils = spoils ∙ same
spoils_on TooLong old now new same spoils = spoils ∙ same
spoils_on Memory old now new same spoils = spoils ∙ same
spoils_on NoThread old now new same spoils = spoils ∙ same
spoils_on Strange old now new same spoils = spoils
spoils_on Workers old now new same spoils = spoils ∙ same
spoils_on Io old now new same spoils = spoils ∙ same

-- a fault that ends a session at a line is none of the devices, and none of the workers' number
ends_inner : (reader writer keeper work : Type 0) (fault : ServeFault) (old new : Holding)
    → EndsSession work old new fault → IsServeFault reader writer keeper fault
ends_inner reader writer keeper work Read old new end = absurd end
ends_inner reader writer keeper work Write old new end = absurd end
ends_inner reader writer keeper work TooLong old new end = absurd end
ends_inner reader writer keeper work Memory old new end = tt
ends_inner reader writer keeper work NoThread old new end = tt
ends_inner reader writer keeper work Strange old new end = tt
ends_inner reader writer keeper work Workers old new end = absurd end
ends_inner reader writer keeper work Io old new end = absurd end

-- and the keeper's only where it may fail so
pub inner_fault : (reader writer keeper work : Type 0) (fault : ServeFault) (old new : Holding)
    → EndsLine keeper work old new fault → IsServeFault reader writer keeper fault
inner_fault reader writer keeper work fault old new (inl io) =
    subst (IsServeFault reader writer keeper) (sym io.0) io.1
inner_fault reader writer keeper work fault old new (inr end) =
    ends_inner reader writer keeper work fault old new end

-- nothing was read yet
pub serving_none : (Done : Doing) (input written : Option (List ℕ)) (old : Holding)
    → old.begun ≡ false → IsServing Done (over input input written written) fresh old old
serving_none Done input written old closed = record {
  lines = [];
  text = [];
  each = All-nil IsLine;
  hands = record { bytes = []; consumed = Consumes-nil input; counted = refl; split = refl };
  met = (refl, refl);
  told = Appends-nil written;
  stays = (refl, closed);
  whole = refl;
  within = omega arith;
}

-- of what is held and what is not read yet, each line takes some
pub left_less : (input left : Option (List ℕ)) (held after : Held) (bytes : List ℕ)
    → HandsLine true input left held after bytes → after.taken ≤ 16777217
    → length after.pending + (16777217 - after.taken) < length held.pending
    + (16777217 - held.taken)
left_less input left held after bytes (one, hands) within =
    let grown = length-append held.pending hands.bytes in
    let gone = length-append (line bytes) after.pending in
    let whole = length-append bytes (10 ∷ []) in
    omega (arith, hands.counted, ap length hands.split, grown, gone, whole, within)

pub takes_line : (ends : Bool) (here left : Option (List ℕ)) (held after : Held) (bytes : List ℕ)
    → HandsLine ends here left held after bytes → Takes here left held.taken after.taken
takes_line true here left held after bytes (one, hands) =
    record { bytes = hands.bytes; consumed = hands.consumed; counted = hands.counted }
takes_line false here left held after bytes (one, hands, some, ended) =
    record { bytes = hands.bytes; consumed = hands.consumed; counted = hands.counted }

-- what was taken where a line was met, or none was left
pub takes_next : (Done : Doing) (more : Bool) (io : Exchange) (held after : Held)
    (now new : Holding) → ServesNext Done more io held after now new
    → Takes io.input io.left held.taken after.taken
takes_next Done true io held after now new next =
    takes_line true io.input io.left held after next.0 next.2
takes_next Done false io held after now new (inl next) =
    takes_line false io.input io.left held after next.0 next.2
takes_next Done false io held after now new (inr next) =
    let (handed, same, kept) = next in
    let (hands, ended) = handed in
    record { bytes = hands.bytes; consumed = hands.consumed; counted = hands.counted }

-- what was taken where a fault came
pub takes_stop : (Done : Doing) (fault : ServeFault) (May : KeepFault → Type 0) (was is : Keeping)
    (io : Exchange) (held after : Held) (now new : Holding)
    → StopsAt Done fault May was is io held after now new
    → Takes io.input io.left held.taken after.taken
takes_stop Done fault May was is io held after now new (inl stop) = stop.0
takes_stop Done fault May was is io held after now new (inr stop) =
    let (of, ends, bytes, text, handed, met, n, told, keeps) = stop in
    takes_line ends io.input io.left held after bytes handed

-- what was taken in all
pub takes_all : (Done : Doing) (input here left : Option (List ℕ)) (held after : Held)
    (written mid : Option (List ℕ)) (old now : Holding)
    → IsServing Done (over input here written mid) held old now
    → Takes here left held.taken after.taken → after.taken ≤ 16777217
    → ConsumesAtMost input left 16777217
takes_all Done input here left held after written mid old now so takes within = (
  so.hands.bytes ++ takes.bytes,
  omega (arith, so.hands.counted, takes.counted, within, length-append so.hands.bytes takes.bytes),
  Consumes-trans input here left so.hands.bytes takes.bytes so.hands.consumed takes.consumed,
)

-- nothing was read and nothing written
pub serves_none : (Done : Doing) (input written : Option (List ℕ)) (old : Holding)
    → ServesFront Done Workers (over input input written written) old old
serves_none Done input written old = record {
  bytes = [];
  rest = [];
  lines = [];
  text = [];
  here = old.line;
  more = [];
  answer = [];
  consumed = Consumes-nil input;
  spelled = (All-nil IsLine, inl refl);
  met = (refl, refl);
  one = omega arith;
  met_more = (refl, refl);
  told = (0, Appends-nil written);
  stands = inr (refl, tt);
}

-- and nothing was kept
pub none_kept : (Done : Doing) (May : KeepFault → Type 0) (k : Keeping)
    (input written : Option (List ℕ)) (old : Holding)
    → ServesFrontKept Done Workers May k k (over input input written written) old old
none_kept Done May k input written old =
    (serves_none Done input written old, inl (kept_none k old.database old.line))

-- where no lines at the beginning of an input alter the line of states, none that were served did
module _ (Done : Doing) (input : Option (List ℕ)) (old : Holding)
    (none : AltersNone Done input old.database old.line) where
  pub unaltered_so : (here : Option (List ℕ)) (held : Held) (written mid : Option (List ℕ))
      (now : Holding)
      → IsServing Done (over input here written mid) held old now → now.line ≡ old.line
  unaltered_so here held written mid now so =
      none here so.hands.bytes held.pending so.lines so.text now.line so.hands.consumed
      (so.each, inl so.hands.split) so.met

  pub unaltered_all : (left written gained : Option (List ℕ)) (new : Holding)
      → ServesAll Done (over input left written gained) old new → new.line ≡ old.line
  unaltered_all left written gained new served =
      none left served.bytes [] served.lines served.text new.line served.consumed
      served.spelled served.met

  pub unaltered_front : (fault : ServeFault) (left written gained : Option (List ℕ)) (new : Holding)
      → ServesFront Done fault (over input left written gained) old new → new.line ≡ old.line
  unaltered_front fault left written gained new served =
      none left served.bytes served.rest (served.lines ++ served.more)
      (served.text ++ served.answer) new.line
      served.consumed served.spelled
      (serves_both Done old.database old.line served.lines served.text served.here
      served.more served.answer
      new.line served.met served.met_more)
