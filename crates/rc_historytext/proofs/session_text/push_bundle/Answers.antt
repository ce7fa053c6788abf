use Rattle.std.proofs.Common.{◌∙◌, ◌∷◌, ◌++◌, ℕ, List, ap}
use Rattle.std.specs.Prelude.{codes}
use Rattle.rc_dbtext.specs.Words.{BundleText}
use Rattle.rc_dbtext.specs.Lines.{words_after_spaces}
use Rattle.rc_livetext.specs.Text.{OfBundle, spell}
use Rattle.rc_historytext.proofs.SessionLines.{bundle_written}
use Rattle.rc_historytext.proofs.session_text.push_bundle.Goals as goal

pub returns : goal.returns
returns c =
    let inside : BundleText = record {
      name = c.bundle.inside.name;
      members = c.bundle.inside.members.items;
    } in
    bundle_written c.args.out.now.items c.extend_from_slice.new.self.items c.push_word.new.out.items
    c.push_spaced.new.out.items c.extend_from_slice-2.new.self.items (codes "bundle") inside.name
    inside.members c.in_ok-extend_from_slice.ensures.items
    (c.in_ok-push_word.ensures.written
    ∙ ap (λ (word : List ℕ). c.extend_from_slice.new.self.items ++ (32 ∷ word))
    (c.as_bytes.ensures.value ∙ c.text.ensures.bytes))
    (c.in_ok-push_spaced.ensures
    ∙ ap (λ (names : List (List ℕ)). c.push_word.new.out.items ++ words_after_spaces names)
    c.deref.ensures.value)
    c.in_ok-extend_from_slice-2.ensures.items
    ∙ ap (λ (b : BundleText). c.args.out.now.items ++ spell (OfBundle b)) c.bundle.view_is
