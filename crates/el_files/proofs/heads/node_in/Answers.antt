use Rattle.std.proofs.Common.{◌≡◌, drop, take, ap, sym, ◌∙◌}
use Rattle.std.specs.Prelude.{Some}
use Rattle.std.proofs.lemmas.List.{take_rest}
use Rattle.el_chain.specs.Records as records
use Rattle.el_files.proofs.Heading.{node_read, node_found, size_bounds}
use Rattle.el_files.proofs.heads.node_in.Goals as goal

pub returns-clause-is : goal.returns-clause-is
returns-clause-is c =
    let size : records.record_size c.args.magic c.args.bytes.now c.args.left ≡ Some c.in_ok-len.len = sym c.size_in.ensures ∙ c.in_ok-len.was in
    let front : c.in-Some.header.now ≡ take 80 (drop 8 c.args.bytes.now) = c.in-Some.ensures.cases.0 ∙ ap (take 80) (take_rest c.args.bytes.now 8) in
    node_read c.args.magic c.args.bytes.now c.in-Some.header.now c.args.file c.args.at c.args.left c.in_ok-len.len c.node_of.result size front c.node_of.ensures.is

pub returns-clause-node : goal.returns-clause-node
returns-clause-node c =
    let size : records.record_size c.args.magic c.args.bytes.now c.args.left ≡ Some c.in_ok-len.len = sym c.size_in.ensures ∙ c.in_ok-len.was in
    let bounds = size_bounds c.args.magic c.args.bytes.now c.args.left c.in_ok-len.len size in
    (node_found c.args.file c.args.at c.args.left c.in_ok-len.len c.in-Some.header.now c.node_of.result bounds c.requires.small c.node_of.ensures.is c.node_of.ensures.node).0

pub returns-clause-within : goal.returns-clause-within
returns-clause-within c =
    let size : records.record_size c.args.magic c.args.bytes.now c.args.left ≡ Some c.in_ok-len.len = sym c.size_in.ensures ∙ c.in_ok-len.was in
    let bounds = size_bounds c.args.magic c.args.bytes.now c.args.left c.in_ok-len.len size in
    (node_found c.args.file c.args.at c.args.left c.in_ok-len.len c.in-Some.header.now c.node_of.result bounds c.requires.small c.node_of.ensures.is c.node_of.ensures.node).1
