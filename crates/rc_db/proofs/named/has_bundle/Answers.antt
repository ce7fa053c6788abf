use Rattle.std.proofs.Common.{◌≡◌, ◌∙◌, List, ℕ, Bool, Contains, Option, Some, None, Bor, is_some}
use Rattle.std.proofs.Common.{IsTrue, refl, sym, ap, true≢false}
use Rattle.std.specs.Option.{option_copied}
use Rattle.rc_model.specs.Database.{Bundles, names_of, value_of}
use Rattle.rc_db.proofs.Values.{named_by_value}
use Rattle.rc_db.proofs.Words.{is_some-value_of}
use Rattle.rc_db.proofs.named.has_bundle.Goals as goal

same_test : (o : Option (Bor (List Bool))) → is_some o ≡ is_some (option_copied o)
same_test None = refl
same_test (Some set) = refl

named : (table : Bundles) (name : List ℕ) (v : Option (List Bool)) → v ≡ value_of table name
    → IsTrue (is_some v) → Contains (names_of table) name
named table name None found full = absurd (true≢false (sym full))
named table name (Some set) found full = named_by_value table name set (sym found)

pub returns : goal.returns
returns c =
    let same : c.is_some.result ≡ is_some (option_copied c.get.result) =
    c.is_some.ensures ∙ same_test c.get.result in (
      λ yes. named c.args.table.now c.args.text.now (option_copied c.get.result) c.get.ensures
          (sym same ∙ yes),
      λ there. same ∙ ap is_some c.get.ensures
          ∙ is_some-value_of c.args.table.now c.args.text.now there,
    )
