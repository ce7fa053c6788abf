use Rattle.std.proofs.Common.{◌≡◌, ◌∙◌, ◌++◌, [], ℕ, List, arith, sym, ap}
use Rattle.std.proofs.lemmas.List.{append-nil}
use Rattle.std.proofs.lemmas.Result.{err_from_is_err_and}
use Rattle.rc_dbtext.specs.Text.{Line, First, ServiceCount, BundleCount, Last, IsServiceText}
use Rattle.rc_dbtext.specs.Text.{IsBundleText, IsDbText, AreFew, service_lines, bundle_lines}
use Rattle.rc_dbtext.specs.Text.{count_and_lines, db_lines, spell}
use Rattle.rc_dbtext.specs.Reading.{IsStuck, one}
use Rattle.rc_dbtext.proofs.Sequences.{refused_where, stuck_first, stuck_second, read_both}
use Rattle.rc_dbtext.proofs.Grammar.{Always, once_all_services, once_all_bundles, end_lines}
use Rattle.rc_dbtext.proofs.Grammar.{end_sequence, inner_lines, inner_sequence, db_sequence}
use Rattle.rc_dbtext.proofs.KindLines.{once_first}
use Rattle.rc_dbtext.proofs.syntax.forms.read_form.Goals as goal

-- what is read of one line
one_line : (line : Line) (bytes rest : List ℕ) → bytes ≡ spell line ++ rest
    → bytes ≡ (spell line ++ []) ++ rest
one_line line bytes rest read =
    read ∙ ap (λ (l : List ℕ). l ++ rest) (sym (append-nil (spell line)))

no_bundles : AreFew IsBundleText []
no_bundles = record { few = omega arith; each = λ k d within. absurd (omega arith) }

no_text : IsDbText (record { services = []; bundles = [] })
no_text = record {
  services = record { few = omega arith; each = λ k d within. absurd (omega arith) };
  bundles = no_bundles;
}

pub returns-in_err-first-clause-fault : goal.returns-in_err-first-clause-fault
returns-in_err-first-clause-fault c =
    let p = err_from_is_err_and c.from_residual.result c.from_residual.ensures.1 in
    rw (p.1, p.2)
    (refused_where c.in_err-first.field-0.0 (IsStuck Always (one (λ _. First)) c.args.bytes.now)
    (IsStuck IsDbText db_lines c.args.bytes.now)
    (λ left due stuck. stuck_first Always (one (λ _. First)) (λ _ t. IsDbText t) inner_lines
    IsDbText db_lines db_sequence c.args.bytes.now left due
    (λ u is. (record { services = []; bundles = [] }, no_text)) stuck)
    c.in_err-first.ensures.fault)

pub returns-in_err-services-clause-fault : goal.returns-in_err-services-clause-fault
returns-in_err-services-clause-fault c =
    let p = err_from_is_err_and c.from_residual-in_err-services.result
    c.from_residual-in_err-services.ensures.1 in
    let read_first =
    one_line First c.args.bytes.now c.in_ok-first.first.now c.in_ok-first.ensures.ok in
    rw (p.1, p.2)
    (refused_where c.in_err-services.field-0.0
    (IsStuck (AreFew IsServiceText) (count_and_lines ServiceCount service_lines)
    c.in_ok-first.first.now) (IsStuck IsDbText db_lines c.args.bytes.now)
    (λ left due stuck. stuck_second Always (one (λ _. First)) (λ _ t. IsDbText t) inner_lines
    IsDbText db_lines db_sequence c.args.bytes.now c.in_ok-first.first.now left due tt
    once_first tt read_first
    (stuck_first (AreFew IsServiceText) (count_and_lines ServiceCount service_lines)
    (λ _ bundles. AreFew IsBundleText bundles) end_lines IsDbText inner_lines inner_sequence
    c.in_ok-first.first.now left due (λ services is. ([], no_bundles)) stuck))
    c.in_err-services.ensures.fault)

pub returns-in_err-bundles-clause-fault : goal.returns-in_err-bundles-clause-fault
returns-in_err-bundles-clause-fault c =
    let p = err_from_is_err_and c.from_residual-in_err-bundles.result
    c.from_residual-in_err-bundles.ensures.1 in
    let read_first =
    one_line First c.args.bytes.now c.in_ok-first.first.now c.in_ok-first.ensures.ok in
    rw (p.1, p.2)
    (refused_where c.in_err-bundles.field-0.0
    (IsStuck (AreFew IsBundleText) (count_and_lines BundleCount bundle_lines)
    c.in_ok-services.rest.now) (IsStuck IsDbText db_lines c.args.bytes.now)
    (λ left due stuck. stuck_second Always (one (λ _. First)) (λ _ t. IsDbText t) inner_lines
    IsDbText db_lines db_sequence c.args.bytes.now c.in_ok-first.first.now left due tt
    once_first tt read_first
    (stuck_second (AreFew IsServiceText) (count_and_lines ServiceCount service_lines)
    (λ _ bundles. AreFew IsBundleText bundles) end_lines IsDbText inner_lines inner_sequence
    c.in_ok-first.first.now c.in_ok-services.rest.now left due c.in_ok-services.services.items
    once_all_services c.in_ok-services.ensures.ok.0 c.in_ok-services.ensures.ok.1
    (stuck_first (AreFew IsBundleText) (count_and_lines BundleCount bundle_lines) (λ _ u. Always u)
    (one (λ _. Last)) (AreFew IsBundleText) end_lines end_sequence c.in_ok-services.rest.now left
    due (λ bundles is. (tt, tt)) stuck)))
    c.in_err-bundles.ensures.fault)

pub returns-in_err-last-clause-fault : goal.returns-in_err-last-clause-fault
returns-in_err-last-clause-fault c =
    let p =
    err_from_is_err_and c.from_residual-in_err-last.result c.from_residual-in_err-last.ensures.1 in
    let read_first =
    one_line First c.args.bytes.now c.in_ok-first.first.now c.in_ok-first.ensures.ok in
    rw (p.1, p.2)
    (refused_where c.in_err-last.field-0.0
    (IsStuck Always (one (λ _. Last)) c.in_ok-bundles.rest.now)
    (IsStuck IsDbText db_lines c.args.bytes.now)
    (λ left due stuck. stuck_second Always (one (λ _. First)) (λ _ t. IsDbText t) inner_lines
    IsDbText db_lines db_sequence c.args.bytes.now c.in_ok-first.first.now left due tt
    once_first tt read_first
    (stuck_second (AreFew IsServiceText) (count_and_lines ServiceCount service_lines)
    (λ _ bundles. AreFew IsBundleText bundles) end_lines IsDbText inner_lines inner_sequence
    c.in_ok-first.first.now c.in_ok-services.rest.now left due c.in_ok-services.services.items
    once_all_services c.in_ok-services.ensures.ok.0 c.in_ok-services.ensures.ok.1
    (stuck_second (AreFew IsBundleText) (count_and_lines BundleCount bundle_lines) (λ _ u. Always u)
    (one (λ _. Last)) (AreFew IsBundleText) end_lines end_sequence c.in_ok-services.rest.now
    c.in_ok-bundles.rest.now left due c.in_ok-bundles.bundles.items once_all_bundles
    c.in_ok-bundles.ensures.ok.0 c.in_ok-bundles.ensures.ok.1 stuck)))
    c.in_err-last.ensures.fault)

pub returns-clause-ok : goal.returns-clause-ok
returns-clause-ok c =
    let behind : List ℕ = c.in_ok-last.last.now in
    let ended = read_both (AreFew IsBundleText) (count_and_lines BundleCount bundle_lines)
    (λ _ u. Always u) (one (λ _. Last)) (AreFew IsBundleText) end_lines end_sequence
    c.in_ok-services.rest.now c.in_ok-bundles.rest.now behind c.in_ok-bundles.bundles.items tt
    c.in_ok-bundles.ensures.ok.0 c.in_ok-bundles.ensures.ok.1 tt
    (one_line Last c.in_ok-bundles.rest.now behind c.in_ok-last.ensures.ok) in
    let inner = read_both (AreFew IsServiceText) (count_and_lines ServiceCount service_lines)
    (λ _ bundles. AreFew IsBundleText bundles) end_lines IsDbText inner_lines inner_sequence
    c.in_ok-first.first.now c.in_ok-services.rest.now behind c.in_ok-services.services.items
    c.in_ok-bundles.bundles.items c.in_ok-services.ensures.ok.0 c.in_ok-services.ensures.ok.1
    ended.0 ended.1 in
    read_both Always (one (λ _. First)) (λ _ t. IsDbText t) inner_lines IsDbText db_lines
    db_sequence c.args.bytes.now c.in_ok-first.first.now behind tt
    (record { services = c.in_ok-services.services.items; bundles = c.in_ok-bundles.bundles.items })
    tt (one_line First c.args.bytes.now c.in_ok-first.first.now c.in_ok-first.ensures.ok)
    inner.0 inner.1
