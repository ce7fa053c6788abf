-- A command of several steps from where its history stands, once what was cut short is taken back.
use Rattle.std.proofs.Common.{◌≡◌, ◌≢◌, ◌∙◌, ◌⊎◌, ◌<◌, ◌^◌, ℕ, Bool, List, []}
use Rattle.std.proofs.Common.{Option, None, false, true}
use Rattle.std.proofs.Common.{◌∷◌, Some, IfErr, IfOk, IfSome, IsSome, Result, Ok, Err, ap, arith}
use Rattle.std.proofs.Common.{inl, inr, length, option_map, refl, subst, sym}
use Rattle.std.proofs.lemmas.Bool.{false≢true}
use Rattle.std.proofs.lemmas.Result.{IfOk-at_ok}
use Rattle.std.specs.Borrow.{Bor}
use Rattle.rc_model.specs.Database.{Database, IsDatabase}
use Rattle.rc_update.specs.Conversions.{conversions_of}
use Rattle.rc_update.specs.declared.conversion.Conversion.{Conversion as Given}
use Rattle.rc_dbtext.specs.Spelling.{spelling as database_text}
use Rattle.rc_historytext.specs.Halting.{Halts}
use Rattle.rc_historytext.specs.Present.{IsPresent}
use Rattle.rc_historytext.specs.Updating.{IsSettled}
use Rattle.rc_serve.specs.declared.ending.Ending.{Ending}
use Rattle.rc_serve.specs.declared.ending.Ending.TheVariants.{Done, Refused, Hindered}
use Rattle.rc_args.specs.UpdateAsked.{update_ask_of}
use Rattle.rc_args.specs.declared.update_words.UpdateRequest.{UpdateRequest}
use Rattle.rc_cli.specs.SessionFaults.{status_of}
use Rattle.rc_cli.specs.UpdateEnds.{Leads as LeadsUpdate}
use Rattle.rc_cli.specs.declared.sessions.keeping.LiveFile.{LiveFile}
use Rattle.rc_cli.specs.declared.sessions.keeping.LiveFile.TheVariants.{Text}
use Rattle.rc_launch.specs.Anew.{CarriesFirst, IsBegunBy, LeadsAnew}
use Rattle.rc_launch.specs.Frames.{IsToBegin}
use Rattle.rc_launch.specs.Halted.{HasHalted, IsBehindRun, IsRefusedOn}
use Rattle.rc_launch.specs.HeldHistory.{Leads, LeadsOn, history_held, history_in}
use Rattle.rc_launch.specs.Loading.{bytes_of}
use Rattle.rc_launch.specs.Putting.{Announces, Puts, manner_of, stepping}
use Rattle.rc_launch.specs.TwoSteps.{CarriesBy, IsInForm, IsKeptUpdate, IsTaken, IsToUpdate}
use Rattle.rc_launch.specs.TwoSteps.{StopsTakingBack, ending_after}
use Rattle.rc_launch.specs.declared.live_store.Frame.{Frame}
use Rattle.rc_launch.specs.declared.live_store.Frame.TheVariants.{Alone, Begins, History}
use Rattle.rc_launch.specs.declared.live_store.LiveStore.{LiveStore}
use Rattle.rc_launch.specs.declared.live_store.Next.{Next}
use Rattle.rc_launch.specs.declared.texts.FileText.{FileText}
use Rattle.rc_launch.specs.declared.two_steps.Texts.{Texts}
use Rattle.rc_launch.proofs.ReadLemmas.{made_so}
use Rattle.rc_launch.proofs.UpdateLemmas.{StepsLeft, carries_first, carries_over}

-- texts that were copied of the history that is held
pub texts_stand : {E : Type 0} (made : Result Texts E) (texts : Texts) (store : LiveStore)
    (was : List ℕ) → made ≡ Ok texts
    → IfOk made (λ t. (h : List ℕ) → history_held store ≡ Some h
    → IsPresent h t.database.items t.session.items)
    → history_held store ≡ Some was → IsPresent was texts.database.items texts.session.items
texts_stand {E} made texts store was is stand held =
    made_so made texts (λ (t : Texts). (h : List ℕ) → history_held store ≡ Some h
    → IsPresent h t.database.items t.session.items) is stand was held

-- the same texts are present
pub present_as : (bytes base session database text : List ℕ) → IsPresent bytes database text
    → base ≡ database → session ≡ text → IsPresent bytes base session
present_as bytes base session database text present base_is session_is =
    subst (λ (b : List ℕ). IsPresent bytes b session) (sym base_is)
    (subst (λ (s : List ℕ). IsPresent bytes database s) (sym session_is) present)

-- what was taken back was taken back by a test of the history
pub taken_by : {F : Type 0} (result : Result Bool ℕ) (cut : Result Bool F) (Named : Type 0)
    (Goes : List ℕ → Bool → Type 0) (old new : LiveStore)
    → IfOk result (λ taken. cut ≡ Ok taken)
    → IfOk cut (λ goes. (was : List ℕ) → history_held old ≡ Some was → Goes was goes)
    → IfOk result (λ taken. Named → Leads old new (IsTaken taken))
    → IfOk result (λ taken. Named → Leads old new (λ was is. Goes was taken × IsTaken taken was is))
taken_by {F} (Ok taken) cut Named Goes old new same goes takes = λ named was held.
    let there = takes named was held in
    let test : (was : List ℕ) → history_held old ≡ Some was → Goes was taken =
    subst (λ (c : Result Bool F). IfOk c (λ b. (was : List ℕ) → history_held old ≡ Some was
    → Goes was b)) same goes in
    (there.0, there.1, (test was held, there.2))
taken_by {F} (Err code) cut Named Goes old new same goes takes = tt

-- what was not taken back, although it was to come first, was so by that test
module _ {F : Type 0} (cut : Result Bool F) (Named : Type 0)
    (Goes : List ℕ → Bool → Type 0) (old new : LiveStore)
    (goes : IfOk cut (λ goes. (was : List ℕ) → history_held old ≡ Some was → Goes was goes)) where
  stops_so : (code : ℕ) (ending : Ending) → code ≢ 0 → (HasHalted code → cut ≡ Ok true)
      → (HasHalted code → Named → Leads old new (Halts false))
      → (code ≡ 1 → Named → Leads old new (IsRefusedOn false))
      → code ≡ status_of ending → Named → Leads old new (StopsTakingBack ending Goes)
  stops_so code Done fault tried halted refused same named was held = absurd (fault same)
  stops_so code Refused fault tried halted refused same named was held =
      let there = refused same named was held in
      (there.0, there.1, (IfOk-at_ok _ (tried (inl same)) goes was held, there.2))
  stops_so code Hindered fault tried halted refused same named was held =
      let there = halted (inr same) named was held in
      (there.0, there.1, (IfOk-at_ok _ (tried (inr same)) goes was held, there.2))

  pub stops_taking_back : (result : Result Bool ℕ) → IfErr result (λ code. code ≢ 0)
      → IfErr result (λ code. HasHalted code → cut ≡ Ok true)
      → IfErr result (λ code. HasHalted code → Named → Leads old new (Halts false))
      → IfErr result (λ code. code ≡ 1 → Named → Leads old new (IsRefusedOn false))
      → IfErr result (λ code. (ending : Ending) → code ≡ status_of ending → Named
      → Leads old new (StopsTakingBack ending Goes))
  stops_taking_back (Ok taken) fault tried halted refused = tt
  stops_taking_back (Err code) fault tried halted refused =
      λ ending. stops_so code ending fault tried halted refused

-- what comes next leads on from there
pub leads_behind : (taken : Bool) (Named : Type 0) (Takes : Bool → List ℕ → List ℕ → Type 0)
    (By : List ℕ → List ℕ → Type 0) (old between new : LiveStore)
    → (Named → Leads old between (Takes taken)) → Named → Leads between new By
    → Leads old new (λ was is. (taken : Bool) × (between : List ℕ) × Takes taken was between
    × By between is)
leads_behind taken Named Takes By old between new takes named by was held =
    let here = takes named was held in
    let there = by here.0 here.1 in
    (there.0, there.1, (taken, here.0, here.2, there.2))

-- and so does a last step that ends so
pub ends_behind : (taken : Bool) (Named : Type 0) (Takes : Bool → List ℕ → List ℕ → Type 0)
    (By : Ending → List ℕ → List ℕ → Type 0) (Stops : List ℕ → List ℕ → Type 0)
    (ending last : Ending) (old between new : LiveStore)
    → (Named → Leads old between (Takes taken)) → Named → ending ≡ ending_after taken last
    → Leads between new (By last)
    → Leads old new (λ was is. Stops was is ⊎ ((taken : Bool) × (between : List ℕ)
    × Takes taken was between × (last : Ending) × (ending ≡ ending_after taken last)
    × By last between is))
ends_behind taken Named Takes By Stops ending last old between new takes named ends by was held =
    let here = takes named was held in
    let there = by here.0 here.1 in
    (there.0, there.1, inr (taken, here.0, here.2, last, ends, there.2))

-- nothing follows an undo that came first and is not done
pub leads_stopped : (Stops By : List ℕ → List ℕ → Type 0) (old new : LiveStore)
    → Leads old new Stops → Leads old new (λ was is. Stops was is ⊎ By was is)
leads_stopped Stops By old new stops was held =
    let there = stops was held in (there.0, there.1, inl there.2)

-- the status of a step behind something that was taken back
pub behind_code : (code status : ℕ) (ending : Ending) → IsBehindRun code status
    → status ≡ status_of ending → (last : Ending) × (code ≡ status_of last)
    × (ending ≡ ending_after true last)
behind_code code status Done (inl refused) same =
    let bad : ◌≡◌ {A = ℕ} 2 0 = sym refused.1 ∙ same in cc
behind_code code status Refused (inl refused) same =
    let bad : ◌≡◌ {A = ℕ} 2 1 = sym refused.1 ∙ same in cc
behind_code code status Hindered (inl refused) same = (Refused, refused.0, refl)
behind_code code status Done (inr other) same = (Done, sym other.1 ∙ same, refl)
behind_code code status Refused (inr other) same = absurd (other.0 (sym other.1 ∙ same))
behind_code code status Hindered (inr other) same = (Hindered, sym other.1 ∙ same, refl)

-- the end of an update is made a stop, if all of it is done
abbrev pub SettlesBy : Ending → (between is : LiveStore) → Type 0
SettlesBy Done between is = Leads between is IsSettled
SettlesBy Refused between is = is ≡ between
SettlesBy Hindered between is = is ≡ between

pub settles_by : (ending : Ending) (status : ℕ) (between is : LiveStore)
    → status ≡ status_of ending → (status ≡ 0 → Leads between is IsSettled)
    → (HasHalted status → is ≡ between) → SettlesBy ending between is
settles_by Done status between is same done halted = done same
settles_by Refused status between is same done halted = halted (inl same)
settles_by Hindered status between is same done halted = halted (inr same)

-- an update of a history from where it stands
module _ (request : UpdateRequest) (new base : List ℕ) (session : Bor (List ℕ)) (was : List ℕ)
    (old between is : LiveStore) (kept : IsKeptUpdate request)
    (to : IsToUpdate new (conversions_of request.conversions.items) old)
    (held : history_held old ≡ Some was) (present : IsPresent was base session.now) where
  abbrev Left : Ending → Database → (done : List ℕ) → Type 0
  Left ending d done =
      StepsLeft (IsInForm was) ending (conversions_of request.conversions.items) d was done

  left_by : (ending : Ending) (d : Database) (done : List ℕ) → IsDatabase d
      → new ≡ database_text d → history_held between ≡ Some done → Left ending d done
      → SettlesBy ending between is
      → LeadsOn was is (CarriesBy ending new (conversions_of request.conversions.items))
  left_by Done d done is_db text there left settles =
      let stop = settles done there in
      (stop.0, stop.1, inr (d, is_db, text, (λ form. (done, left form, stop.2))))
  left_by Refused d done is_db text there left settles = absurd left
  left_by Hindered d done is_db text there left settles = (
    done,
    subst (λ (s : LiveStore). history_held s ≡ Some done) (sym settles) there,
    (d, is_db, text, left),
  )

  pub updates_on : (ending : Ending)
      → LeadsUpdate Puts Announces base new (update_ask_of request) (Text session) ending old
      between
      → SettlesBy ending between is
      → LeadsOn was is (CarriesBy ending new (conversions_of request.conversions.items))
  updates_on Done (inl refused) settles = let bad : Done ≡ Refused = refused.0 in cc
  updates_on Refused (inl refused) settles = (
    was,
    subst (λ (s : LiveStore). history_held s ≡ Some was) (sym (settles ∙ refused.1)) held,
    refl,
  )
  updates_on Hindered (inl refused) settles = let bad : Hindered ≡ Refused = refused.0 in cc
  updates_on ending (inr leads) settles =
      let from = leads.0 in
      let d = leads.1 in
      let from_spells = leads.2 in
      let to_spells = leads.3 in
      let there = carries_over (update_ask_of request) ending to.0 from d session was old between
      from_spells.0 from_spells.1 to_spells.0 to_spells.1 kept.1 kept.0
      (to.1 ∙ to_spells.2) to.2
      (subst (λ (b : List ℕ). IsPresent was b session.now) from_spells.2 present) (held, to.3)
      leads.4 in
      left_by ending d there.0 to_spells.0 to_spells.2 there.1 there.2 settles

-- a frame that is to begin a history holds none
pub begins_bare : (base : List ℕ) (frame : Frame) → IsToBegin base frame → history_in frame ≡ None
begins_bare base (Begins database) begins = refl
begins_bare base (Alone found) begins = absurd begins
begins_bare base (History framed) begins = absurd begins

-- what ended with false did not end with true, nor with an error
pub not_taken : (result : Result Bool ℕ) (taken : Bool) → result ≡ Ok false → result ≡ Ok taken
    → taken ≡ true → ⊥
not_taken result taken none is test =
    let bad : ◌≡◌ {A = Result Bool ℕ} (Ok false) (Ok true) = sym none ∙ is ∙ ap Ok test in cc

pub not_stopped : (result : Result Bool ℕ) (code : ℕ) → result ≡ Ok false → result ≡ Err code
    → ⊥
not_stopped result code none is =
    let bad : ◌≡◌ {A = Result Bool ℕ} (Ok false) (Err code) = sym none ∙ is in cc

-- an update of a store that is to begin a history
module _ (request : UpdateRequest) (new base : List ℕ) (file : LiveFile)
    (old between is : LiveStore) (kept : IsKeptUpdate request)
    (to : IsToUpdate new (conversions_of request.conversions.items) old)
    (begins : IsToBegin base old.frame) (fits : request.session.bound < 2 ^ 32) where
  first_by : (ending : Ending) (d : Database) (first done : List ℕ) → IsDatabase d
      → new ≡ database_text d → history_held between ≡ Some done
      → StepsLeft (Unit {0}) ending (conversions_of request.conversions.items) d first done
      → SettlesBy ending between is
      → LeadsOn first is (CarriesFirst ending new (conversions_of request.conversions.items))
  first_by Done d first done is_db text there left settles =
      let stop = settles done there in
      (stop.0, stop.1, (d, is_db, text, (done, left tt, stop.2)))
  first_by Refused d first done is_db text there left settles = absurd left
  first_by Hindered d first done is_db text there left settles = (
    done,
    subst (λ (s : LiveStore). history_held s ≡ Some done) (sym settles) there,
    (d, is_db, text, left tt),
  )

  pub updates_first : (ending : Ending)
      → LeadsUpdate Puts Announces base new (update_ask_of request) file ending old between
      → SettlesBy ending between is
      → LeadsAnew ending (IsBegunBy base request.session.bound file)
      (CarriesFirst ending new (conversions_of request.conversions.items)) old.frame is
  updates_first Done (inl refused) settles = let bad : Done ≡ Refused = refused.0 in cc
  updates_first Refused (inl refused) settles =
      inl (refl, ap (λ (s : LiveStore). s.frame) (settles ∙ refused.1))
  updates_first Hindered (inl refused) settles = let bad : Hindered ≡ Refused = refused.0 in cc
  updates_first ending (inr leads) settles =
      let from_spells = leads.2 in
      let to_spells = leads.3 in
      let there = carries_first (update_ask_of request) ending to.0 leads.0 leads.1 file base old
      between (request.session.states, fits) from_spells.0 from_spells.1 to_spells.0 to_spells.1
      kept.1 kept.0 (to.1 ∙ to_spells.2) to.2 from_spells.2 begins to.3 leads.4 in
      inr (
        there.0,
        there.1,
        first_by ending leads.1 there.0 there.2.0 to_spells.0 to_spells.2
            there.2.1 there.2.2 settles,
      )

-- a list without conversions asks for none
none_asked : (list : List Given) → length list ≡ 0 → conversions_of list ≡ []
none_asked [] none = refl
none_asked (one ∷ more) none = absurd (omega (arith, none))

-- no ending has the status of a failure
never_failed : (ending : Ending) → 111 ≡ status_of ending → ⊥
never_failed Done bad = absurd (omega (arith, bad))
never_failed Refused bad = absurd (omega (arith, bad))
never_failed Hindered bad = absurd (omega (arith, bad))

-- an update that is up to date leaves the history as it is
pub stays_on : (list : List Given) (new base : List ℕ) (session : List ℕ) (was : List ℕ)
    (old is : LiveStore) (status : ℕ) (ending : Ending) → (status ≡ 0) ⊎ (status ≡ 111)
    → status ≡ status_of ending → is ≡ old → length list ≡ 0 → new ≡ base
    → history_held old ≡ Some was → IsPresent was base session
    → LeadsOn was is (CarriesBy ending new (conversions_of list))
stays_on list new base session was old is status Refused (inl zero) ends same none new_is held
    present = let bad : ◌≡◌ {A = ℕ} 0 1 = sym zero ∙ ends in cc
stays_on list new base session was old is status Hindered (inl zero) ends same none new_is held
    present = let bad : ◌≡◌ {A = ℕ} 0 2 = sym zero ∙ ends in cc
stays_on list new base session was old is status ending (inr failed) ends same none new_is held
    present = absurd (never_failed ending (sym failed ∙ ends))
stays_on list new base session was old is status Done (inl zero) ends same none new_is held
    present = (
      was,
      subst (λ (s : LiveStore). history_held s ≡ Some was) (sym same) held,
      inl (
        none_asked list none,
        (session, subst (λ (b : List ℕ). IsPresent was b session) (sym new_is) present),
        refl,
      ),
    )

-- a store is prepared for an update to the database that was read
pub is_to_update : (found : Option (Bor FileText)) (text : Bor FileText) (new : Option FileText)
    (next : Option Next) (list : List Given) (store : LiveStore) → found ≡ Some text
    → option_map (λ (t : Bor FileText). t.now) found ≡ new → IsSome next
    → IfSome next (λ n. (n.database.now ≡ text.now.bytes.items) × (n.list.now ≡ list)
    × (manner_of store ≡ stepping (Some n)))
    → IsToUpdate (bytes_of new) (conversions_of list) store
is_to_update found text new (Some next) list store is same some prepared =
    let read : Some text.now ≡ new =
    sym (ap (option_map (λ (t : Bor FileText). t.now)) is) ∙ same in
    (next, prepared.0 ∙ ap bytes_of read, ap conversions_of prepared.1, prepared.2)
is_to_update found text new None list store is same some prepared = absurd (false≢true some)
