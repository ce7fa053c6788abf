use Rattle.std.proofs.Common.{◌≡◌, ◌==◌, ◌++◌, true, false, drop, length, Some, sym, ap, ◌∙◌, refl}
use Rattle.std.specs.List.{starts_with, before_first}
use Rattle.std.specs.Prelude.{nat_eq}
use Rattle.std.proofs.lemmas.Str.Pattern.{starts_text}
use Rattle.rc_source.proofs.memory_tree.next_name_of.Goals as goal

pub returns-in-Some : goal.returns-in-Some
returns-in-Some c =
    let h = c.in-Some.ensures.cases in
    let starts : true ≡ starts_with nat_eq c.args.path.now c.args.beginning.now =
    starts_text true c.args.beginning.now c.args.path.now (
      length c.args.beginning.now,
      (refl, h.1.1 ∙ ap (λ n. c.args.beginning.now ++ drop n c.args.path.now) h.1.0, h.1.2),
      h.1.2,
    ) in
    let rest = h.2 ∙ ap (λ n. drop n c.args.path.now) h.1.0 in
    rw (sym starts) (ap Some (c.first_part.ensures ∙ ap (before_first (λ byte. byte == 47)) rest))

pub returns-in-None : goal.returns-in-None
returns-in-None c =
    let starts : false ≡ starts_with nat_eq c.args.path.now c.args.beginning.now =
    starts_text false c.args.beginning.now c.args.path.now c.in-None.ensures.cases in
    rw (sym starts) refl
