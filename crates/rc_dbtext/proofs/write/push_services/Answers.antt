use Rattle.std.proofs.Common.{◌≡◌, ◌∙◌, ◌<◌, ◌+◌, List, get_or, length, arith, sym, ap}
use Rattle.std.proofs.lemmas.Option.{slice_get-get_or}
use Rattle.std.specs.Prelude.{codes}
use Rattle.rc_dbtext.specs.Text.{ServiceCount, ServiceText, service_lines}
use Rattle.rc_dbtext.specs.Spelling.{text_of}
use Rattle.rc_dbtext.proofs.Drafting.{no_service}
use Rattle.rc_dbtext.proofs.Writing.{as_many_texts, count_line, counted_all, counted_init}
use Rattle.rc_dbtext.proofs.Writing.{counted_step}
use Rattle.rc_dbtext.proofs.write.push_services.Goals as goal

pub loop-id-init : goal.loop-id-init
loop-id-init c =
    let texts : List ServiceText = (text_of c.args.db.now).services in
    let same : c.len-count.result ≡ length texts = c.len-count.ensures.len
    ∙ ap length c.names-names.ensures.names
    ∙ sym (as_many_texts c.args.db.now c.names-names.ensures.database) in
    counted_init service_lines (ServiceCount (length texts)) texts c.args.out.now.items
    c.push_count.new.out.items
    (count_line (codes "services") c.args.out.now.items c.push_count.new.out.items
    c.len-count.result (length texts) same c.in_ok-push_count.ensures)

pub loop-id-preserved : goal.loop-id-preserved
loop-id-preserved c =
    let texts : List ServiceText = (text_of c.args.db.now).services in
    let same : c.len-count.result ≡ length texts = c.len-count.ensures.len
    ∙ ap length c.names-names.ensures.names
    ∙ sym (as_many_texts c.args.db.now c.names-names.ensures.database) in
    let within : c.loop-id.id < length texts = omega arith in
    counted_step service_lines (ServiceCount (length texts)) texts c.args.out.now.items
    c.loop-id.out.items c.push_service.new.out.items c.loop-id.id no_service within
    c.loop-id.invariant
    (c.in_ok-push_service.ensures (get_or texts c.loop-id.id no_service)
    (slice_get-get_or texts c.loop-id.id no_service within))

pub returns : goal.returns
returns c =
    let texts : List ServiceText = (text_of c.args.db.now).services in
    let same : c.len-count.result ≡ length texts = c.len-count.ensures.len
    ∙ ap length c.names-names.ensures.names
    ∙ sym (as_many_texts c.args.db.now c.names-names.ensures.database) in
    let past : length texts < c.loop-id.id + 1 = omega arith in
    counted_all service_lines (ServiceCount (length texts)) texts c.args.out.now.items
    c.loop-id.out.items c.loop-id.id past c.loop-id.invariant
