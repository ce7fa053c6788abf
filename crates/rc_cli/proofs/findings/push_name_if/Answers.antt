use Rattle.std.proofs.Common.{◌∙◌, ◌∷◌, ◌++◌, [], ℕ, Bool, List, ap, map, string_bytes, sym}
use Rattle.std.proofs.lemmas.Option.{get_or_from_slice_get}
use Rattle.rc_db.proofs.Listing.{shown_more}
use Rattle.rc_cli.specs.Checking.{name_if}
use Rattle.rc_cli.proofs.findings.push_name_if.Goals as goal

pub returns-in_ok-push : goal.returns-in_ok-push
returns-in_ok-push c =
    let old : List (List ℕ) = map string_bytes c.args.list.now.items in
    shown_more string_bytes c.args.list.now.items c.push.new.self.items c.in_ok-name.name
    c.in_ok-push.ensures.items
    ∙ (ap (λ (x : List ℕ). old ++ x ∷ [])
    (c.in_ok-name.ensures.ok ∙ (c.text.ensures.bytes
    ∙ sym (get_or_from_slice_get c.args.names.now c.args.id c.name_of.result.now []
    c.name_of.ensures)))
    ∙ sym (ap (λ (b : Bool). old ++ name_if c.args.names.now b c.args.id) c.if-is_one.true))
