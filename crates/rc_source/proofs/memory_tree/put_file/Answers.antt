use Rattle.std.proofs.Common.{◌≡◌, ◌∙◌, false, Contains, map, sym, ap, subst}
use Rattle.std.proofs.Common.{string_bytes}
use Rattle.std.specs.BTreeMap.{is_at}
use Rattle.std.specs.BTreeSet.{insert_key}
use Rattle.std.specs.Set.{remove_key}
use Rattle.std.specs.Cmp.Lexicographic.{slice_cmp}
use Rattle.std.specs.List.{list_any}
use Rattle.std.specs.Ordering.{nat_cmp, is_eq}
use Rattle.rc_names.specs.Names.{Adds}
use Rattle.rc_names.proofs.Growth.{adds_none}
use Rattle.rc_source.specs.Tree.{IsPutAt}
use Rattle.rc_source.specs.Shown.{shown_files}
use Rattle.rc_source.proofs.TextSets.{Adds-insert_key, Contains-from_any, IsPutAt-insert_entry}
use Rattle.rc_source.proofs.TextSets.{remove_key-insert_key, by_bytes}
use Rattle.rc_source.proofs.memory_tree.put_file.Goals as goal

pub returns-then-contains-clause-entries : goal.returns-then-contains-clause-entries
returns-then-contains-clause-entries c =
    adds_none (map string_bytes c.args.entries.now.keys) (string_bytes c.args.service)
    (subst (Contains (map string_bytes c.args.entries.now.keys)) c.as_str.ensures.value
    (Contains-from_any string_bytes c.args.entries.now.keys c.as_str.result.now
    (sym c.contains.ensures ∙ c.if-contains.true)))

pub returns-then-contains-clause-files : goal.returns-then-contains-clause-files
returns-then-contains-clause-files c =
    subst (λ es. IsPutAt (shown_files c.args.files.now.entries) (string_bytes c.args.path)
    c.args.bytes.items (shown_files es)) (sym c.in_ok-insert.ensures.entries)
    (IsPutAt-insert_entry string_bytes (λ v. v.items) c.args.files.now.entries
    c.args.path c.args.bytes)

pub returns-in-Ok-clause-entries : goal.returns-in-Ok-clause-entries
returns-in-Ok-clause-entries c =
    let old = c.args.entries.now.keys in
    let put = Adds-insert_key string_bytes old c.in_ok-name.name in
    let named =
    subst (λ text. Adds (map string_bytes old) text
    (map string_bytes (insert_key (by_bytes string_bytes) old c.in_ok-name.name)))
    c.in_ok-name.ensures.cases put in
    subst (λ keys. Adds (map string_bytes old) (string_bytes c.args.service)
    (map string_bytes keys)) (sym c.in_ok-insert-2.ensures.keys) named

pub returns-in-Ok-clause-files : goal.returns-in-Ok-clause-files
returns-in-Ok-clause-files c =
    subst (λ es. IsPutAt (shown_files c.args.files.now.entries) (string_bytes c.args.path)
    c.args.bytes.items (shown_files es)) (sym c.in-Ok.ensures.entries)
    (IsPutAt-insert_entry string_bytes (λ v. v.items) c.args.files.now.entries
    c.args.path c.args.bytes)

pub returns-clause-entries_stay : goal.returns-clause-entries_stay
returns-clause-entries_stay c =
    let old = c.args.entries.now.keys in
    let name = c.in_ok-name.name in
    let absent : list_any (λ x. is_eq (slice_cmp nat_cmp (string_bytes name) (string_bytes x))) old
    ≡ false =
    subst (λ text. list_any (λ x. is_eq (slice_cmp nat_cmp text (string_bytes x))) old ≡ false)
    (c.as_str.ensures.value ∙ sym c.in_ok-name.ensures.cases)
    (sym c.contains.ensures ∙ c.if-contains.false) in
    let back =
    subst (λ text. remove_key (is_at (λ x. slice_cmp nat_cmp text (string_bytes x)))
    (insert_key (by_bytes string_bytes) old name) ≡ old) c.in_ok-name.ensures.cases
    (remove_key-insert_key string_bytes old name absent) in
    c.remove.ensures.keys
    ∙ ap (λ keys. remove_key
    (is_at (λ x. slice_cmp nat_cmp (string_bytes c.args.service) (string_bytes x))) keys)
    c.in_ok-insert-2.ensures.keys ∙ back
