-- The text is put together of its pieces.
use Rattle.std.proofs.Common.{rules, ◌≡◌, ◌++◌, ◌∙◌, codes}
use Rattle.ld_term.specs.StrictTexts.{strict_text}
use Rattle.term_graph.specs.Nodes.{term_of}
use Rattle.ld_cert.proofs.StepTextLemmas.{certificate-pieces}
use Rattle.ld_cert.proofs.derive.path_text.Goals as goal

pub returns : goal.returns
returns c =
    let left = term_of c.args.node.now.value in
    let right = term_of c.in_ok-derived.derived.value in
    let lines = c.push_path.new.text.items in
    let text : c.extend_from_slice-5.new.self.items
    ≡ (((((codes "ld-certificate 1\nleft " ++ strict_text left) ++ codes "\nright ") ++ strict_text right)
    ++ codes "\nyes\n") ++ lines) ++ codes "end\n"
    = search rules in
    text
    ∙ certificate-pieces left right c.new-lines.result.items lines c.in_ok-derived.ensures.tree
    c.new-lines.ensures.items c.in_ok-derived.ensures.text
