use Rattle.std.proofs.Common.{◌≡◌, ◌∙◌, ℕ, List, [], Option, Some, None, MatchOption, slice_get}
use Rattle.std.proofs.Common.{refl, sym, ap, subst}
use Rattle.std.proofs.lemmas.Option.{get_or_from_slice_get}
use Rattle.std.specs.Option.{option_map}
use Rattle.rc_model.specs.declared.Kind.{Kind}
use Rattle.rc_model.specs.declared.Kind.TheVariants as kinds
use Rattle.rc_model.specs.Database.{Service}
use Rattle.rc_dbtext.specs.Text.{Head, OfLongrun, OfOneshot, ServiceText, IsBody, IsHead}
use Rattle.rc_dbtext.specs.Text.{IsServiceText}
use Rattle.rc_dbtext.specs.FormText.{body_text}
use Rattle.rc_dbtext.specs.Parts.{FeedsKnown, IsServiceOf}
use Rattle.rc_dbtext.specs.Spelling.{body_of, head_of, name_at}
use Rattle.rc_dbtext.proofs.build.service_of.Goals as goal

fed_name : (names : List (List ℕ)) (fed : Option (List ℕ)) (id : Option ℕ)
    → MatchOption fed (id ≡ None)
    (λ name. (i : ℕ) × (id ≡ Some i) × (slice_get names i ≡ Some name))
    → option_map (name_at names) id ≡ fed
fed_name names None id none = ap (option_map (name_at names)) none
fed_name names (Some name) id (i, is, at) =
    ap (option_map (name_at names)) is ∙ ap Some (get_or_from_slice_get names i name [] at)

fed_at : (names : List (List ℕ)) (fed : Option (List ℕ)) (id : Option ℕ) (i : ℕ)
    → MatchOption fed (id ≡ None)
    (λ name. (i : ℕ) × (id ≡ Some i) × (slice_get names i ≡ Some name)) → id ≡ Some i
    → (name : List ℕ) × (fed ≡ Some name) × (slice_get names i ≡ Some name)
fed_at names None id i none some = cc
fed_at names (Some name) id i (j, is, at) some = (name, refl, cc)

-- a longrun that feeds what the text says
longrun_of : (names : List (List ℕ)) (text : ServiceText) (s : Service) (fed : Option (List ℕ))
    → IsServiceText text → head_of text.head.name s ≡ text.head → text.body ≡ OfLongrun fed
    → s.text_up ≡ None → s.text_down ≡ None
    → MatchOption fed (s.producer_for ≡ None)
    (λ name. (i : ℕ) × (s.producer_for ≡ Some i) × (slice_get names i ≡ Some name))
    → IsServiceOf names text s
longrun_of names text s fed is head body up down feeds =
    let fits_in : IsBody text.head.kind (OfLongrun fed) =
    subst (IsBody text.head.kind) body is.body in
    let kind : s.kind ≡ kinds.Longrun = ap (λ (h : Head). h.kind) head ∙ fits_in.0 in
    record {
      head = head;
      body =
          ap (λ (k : Kind). body_of names k s) kind
          ∙ ap OfLongrun (fed_name names fed s.producer_for feeds) ∙ sym body;
      fed = λ i some. let at = fed_at names fed s.producer_for i feeds some in
          (at.0, body ∙ ap OfLongrun at.1, at.2);
      writable = record {
        oneshot = λ oneshot. cc;
        longrun = λ longrun. (up, down);
        up = rw up tt;
        down = rw down tt;
      };
    }

-- a oneshot with the texts that are given
oneshot_of : (names : List (List ℕ)) (text : ServiceText) (s : Service) (up : List ℕ)
    (down : Option (List ℕ)) → IsServiceText text → head_of text.head.name s ≡ text.head
    → text.body ≡ OfOneshot up down
    → s.text_up ≡ Some up → s.text_down ≡ down → s.producer_for ≡ None → IsServiceOf names text s
oneshot_of names text s up down is head body up_is down_is none =
    let fits_in : IsBody text.head.kind (OfOneshot up down) =
    subst (IsBody text.head.kind) body is.body in
    let kind : s.kind ≡ kinds.Oneshot = ap (λ (h : Head). h.kind) head ∙ fits_in.0 in
    record {
      head = head;
      body = ap (λ (k : Kind). body_of names k s) kind ∙ rw (up_is, down_is) (sym body);
      fed = λ i some. absurd (cc);
      writable = record {
        oneshot = λ oneshot. (rw up_is refl, none);
        longrun = λ longrun. absurd (cc);
        up = rw up_is fits_in.1;
        down = rw down_is fits_in.2;
      };
    }

pub returns-in-Longrun : goal.returns-in-Longrun
returns-in-Longrun c =
    let head : c.form.inside.head ≡ c.args.form.now.head =
    ap (λ (t : ServiceText). t.head) c.form.view_is in
    longrun_of c.args.names.now c.args.form.now c.service_with.result c.in-Longrun.fed
    c.requires.text
    (subst (λ (h : Head). head_of h.name c.service_with.result ≡ h) head
    c.service_with.ensures.head)
    (ap (λ (t : ServiceText). t.body) (sym c.form.view_is) ∙ ap body_text c.in-Longrun.is)
    c.service_with.ensures.up c.service_with.ensures.down
    (subst (λ (id : Option ℕ). MatchOption c.in-Longrun.fed (id ≡ None)
    (λ name. (i : ℕ) × (id ≡ Some i) × (slice_get c.args.names.now i ≡ Some name)))
    (sym c.service_with.ensures.fed) c.fed_id-producer_for.ensures)

pub returns-in_ok-down-in-Oneshot : goal.returns-in_ok-down-in-Oneshot
returns-in_ok-down-in-Oneshot c =
    let made : Service = c.service_with-in-Oneshot.result in
    let head : c.form.inside.head ≡ c.args.form.now.head =
    ap (λ (t : ServiceText). t.head) c.form.view_is in
    oneshot_of c.args.names.now c.args.form.now made c.in-Oneshot.up.now
    (option_map (λ text. text.now) c.in-Oneshot.down) c.requires.text
    (subst (λ (h : Head). head_of h.name made ≡ h) head c.service_with-in-Oneshot.ensures.head)
    (ap (λ (t : ServiceText). t.body) (sym c.form.view_is) ∙ ap body_text c.in-Oneshot.is)
    (c.service_with-in-Oneshot.ensures.up ∙ ap Some c.in_ok-up-in-Oneshot.ensures.ok)
    (c.service_with-in-Oneshot.ensures.down ∙ c.in_ok-down-in-Oneshot.ensures)
    c.service_with-in-Oneshot.ensures.fed

pub fed_id-producer_for-requires : goal.fed_id-producer_for-requires
fed_id-producer_for-requires c =
    subst (FeedsKnown c.args.names.now) (sym (ap (λ (t : ServiceText). t.body) c.form.view_is)
    ∙ ap body_text c.in-Longrun.is) c.requires.fed

pub service_with-requires : goal.service_with-requires
service_with-requires c =
    subst IsHead (sym (ap (λ (t : ServiceText). t.head) c.form.view_is)) c.requires.text.head

pub service_with-requires-in-Oneshot : goal.service_with-requires-in-Oneshot
service_with-requires-in-Oneshot c =
    subst IsHead (sym (ap (λ (t : ServiceText). t.head) c.form.view_is)) c.requires.text.head
