use Rattle.std.proofs.Common.{ℕ, inl, inr, rules, refl, sym, append-nil}
use Rattle.el_outside.proofs.Traces.{goes_none}
use Rattle.el_words.specs.Options.{Word}
use Rattle.el_words.specs.Words.{IsServeOf, IsOnceOf, IsCheckOf, IsAuditOf, texts}
use Rattle.el_words.specs.declared.words.Network.{Network}
use Rattle.el_words.specs.declared.words.ServeWords.{ServeWords}
use Rattle.el_words.specs.declared.words.Command.TheVariants as command
use Rattle.el_words.proofs.OneCommand.{no_command}
use Rattle.el_program.specs.Ends.{usage, once}
use Rattle.el_loop.specs.Traffic.{no_traffic}
use Rattle.el_side.proofs.Deeds.{all_rose_none}
use Rattle.el_program.proofs.Audits.{audit_network, audit_no_check, audit_no_proof, audit_no_serve, check_asks_none, check_no_proof, is_audit, once_asks_none, once_no_summary, serve_no_summary}
use Rattle.el_program.proofs.Checks.{one_check}
use Rattle.el_program.proofs.IndexDisks.{unchanged}
use Rattle.el_program.proofs.Servings.{is_serve, is_once, magic_of, network_in, bits_in, served_with}
use Rattle.el_program.proofs.serving.serve.Goals as goal

-- ---- `serve`

pub serve_network-requires-clause-least : goal.serve_network-requires-clause-least
serve_network-requires-clause-least g c = λ κs lives. (bits_in c.in-Some.ensures.found).0

pub serve_network-requires-clause-most : goal.serve_network-requires-clause-most
serve_network-requires-clause-most g c = λ κs lives. (bits_in c.in-Some.ensures.found).1

pub returns-in-Some-clause-ends : goal.returns-in-Some-clause-ends
returns-in-Some-clause-ends g c =
    let others = serve_no_summary c.in-Some.ensures.found.1 in
    record {
      served = λ none was flight index starts.
          let found = c.in-Some.ensures.found in
          let is = is_serve found.1 (magic_of found.0 found.2) in
          let e = c.serve_network.ensures.ends was flight index (λ sure. starts sure _ is) in
          (e.0, e.1, served_with found e.2);
      checked = λ count is. absurd (others.no_check count is);
      audited = λ magic is. absurd (others.no_audit magic is);
      proved = λ said is. absurd (others.no_proof said is);
    }

pub returns-in-Some-clause-bad : goal.returns-in-Some-clause-bad
returns-in-Some-clause-bad g c = λ told bad magic asks. elim asks [
  | inl is ↦ rw (network_in is c.in-Some.ensures.found) (c.serve_network.ensures.bad told bad)
  | inr is ↦ absurd ((serve_no_summary c.in-Some.ensures.found.1).no_audit magic is)
]

pub returns-in-Some-clause-is_bad : goal.returns-in-Some-clause-is_bad
returns-in-Some-clause-is_bad g c = λ told magic asks bad. elim asks [
  | inl is ↦ c.serve_network.ensures.is_bad told (rw (network_in is c.in-Some.ensures.found) at bad)
  | inr is ↦ absurd ((serve_no_summary c.in-Some.ensures.found.1).no_audit magic is)
]

pub returns-in-Some-clause-kept : goal.returns-in-Some-clause-kept
returns-in-Some-clause-kept g c = λ told magic asks bad. elim asks [
  | inl is ↦ c.serve_network.ensures.kept told (rw (network_in is c.in-Some.ensures.found) at bad)
  | inr is ↦ absurd ((serve_no_summary c.in-Some.ensures.found.1).no_audit magic is)
]

pub returns-in-Some-clause-refused : goal.returns-in-Some-clause-refused
returns-in-Some-clause-refused g c = λ none.
    let found = c.in-Some.ensures.found in
    absurd (none (command.Serve found.0) found.1)

pub returns-in-Some-clause-unread : goal.returns-in-Some-clause-unread
returns-in-Some-clause-unread g c = λ usage. absurd (c.serve_network.ensures.read usage)

pub returns-in-Some-clause-lawful : goal.returns-in-Some-clause-lawful
returns-in-Some-clause-lawful g c = λ usage. absurd (c.serve_network.ensures.read usage)

pub returns-in-Some-clause-untouched : goal.returns-in-Some-clause-untouched
returns-in-Some-clause-untouched g c = λ none. absurd (none _ (inl (is_serve c.in-Some.ensures.found.1 refl)))

pub returns-in-Some-clause-others : goal.returns-in-Some-clause-others
returns-in-Some-clause-others g c = c.serve_network.ensures.others

-- ---- `once`

pub returns-in-Some-once_of-clause-ends : goal.returns-in-Some-once_of-clause-ends
returns-in-Some-once_of-clause-ends g c =
    let others = once_no_summary c.in-Some-once_of.ensures.found.1 in
    record {
      served = λ none was flight index starts.
          let e = c.serve_file.ensures.ends (g.D.Disk.faults c.args.disk) in
          (e.0, e.1, once _ (is_once c.in-Some-once_of.ensures.found.1 c.magic.ensures) e.2);
      checked = λ count is. absurd (others.no_check count is);
      audited = λ magic is. absurd (others.no_audit magic is);
      proved = λ said is. absurd (others.no_proof said is);
    }

pub returns-in-Some-once_of-clause-causes : goal.returns-in-Some-once_of-clause-causes
returns-in-Some-once_of-clause-causes g c = c.serve_file.ensures.causes (g.D.Disk.faults c.args.disk)

pub returns-in-Some-once_of-clause-refused : goal.returns-in-Some-once_of-clause-refused
returns-in-Some-once_of-clause-refused g c = λ none.
    let found = c.in-Some-once_of.ensures.found in
    absurd (none (command.Once found.0 _) found.1)

pub returns-in-Some-once_of-clause-unread : goal.returns-in-Some-once_of-clause-unread
returns-in-Some-once_of-clause-unread g c = λ usage.
    let e = c.serve_file.ensures.ends 0 in
    absurd (rw usage at e.2)

pub returns-in-Some-once_of-clause-lawful : goal.returns-in-Some-once_of-clause-lawful
returns-in-Some-once_of-clause-lawful g c = λ usage.
    let e = c.serve_file.ensures.ends 0 in
    absurd (rw usage at e.2)

pub returns-in-Some-once_of-clause-bad : goal.returns-in-Some-once_of-clause-bad
returns-in-Some-once_of-clause-bad g c = λ told bad magic asks. absurd (once_asks_none c.in-Some-once_of.ensures.found asks)

pub returns-in-Some-once_of-clause-is_bad : goal.returns-in-Some-once_of-clause-is_bad
returns-in-Some-once_of-clause-is_bad g c = λ told magic asks bad. absurd (once_asks_none c.in-Some-once_of.ensures.found asks)

pub returns-in-Some-once_of-clause-kept : goal.returns-in-Some-once_of-clause-kept
returns-in-Some-once_of-clause-kept g c = λ told magic asks bad. unchanged g.D.Disk c.args.disk

pub returns-in-Some-once_of-clause-kept_counts : goal.returns-in-Some-once_of-clause-kept_counts
returns-in-Some-once_of-clause-kept_counts g c = λ bad.
    let e = c.serve_file.ensures.ends 0 in
    absurd (rw bad at e.2)

pub returns-in-Some-once_of-clause-kept_files : goal.returns-in-Some-once_of-clause-kept_files
returns-in-Some-once_of-clause-kept_files g c = λ bad.
    let e = c.serve_file.ensures.ends 0 in
    absurd (rw bad at e.2)

pub returns-in-Some-once_of-clause-others : goal.returns-in-Some-once_of-clause-others
returns-in-Some-once_of-clause-others g c = λ told f beyond. refl

-- ---- `audit`

pub returns-in-Some-audit_of-clause-ends : goal.returns-in-Some-audit_of-clause-ends
returns-in-Some-audit_of-clause-ends g c =
    let found = c.in-Some-audit_of.ensures.found in
    record {
      served = λ none. absurd (none.no_audit _ (is_audit found));
      checked = λ count is. absurd (audit_no_check found.2 is);
      audited = λ magic is was flight index starts.
          rw (audit_network is found)
          (c.serve_audit.ensures.ends c.args.turns (g.Y.Relay.faults c.args.relay.now) was flight index (λ sure. rw (audit_network is found) at (starts sure)));
      proved = λ said is. absurd (audit_no_proof found.2 is);
    }

pub returns-in-Some-audit_of-clause-causes : goal.returns-in-Some-audit_of-clause-causes
returns-in-Some-audit_of-clause-causes g c = c.serve_audit.ensures.causes c.args.turns (g.Y.Relay.faults c.args.relay.now)

pub returns-in-Some-audit_of-clause-bad : goal.returns-in-Some-audit_of-clause-bad
returns-in-Some-audit_of-clause-bad g c = λ told bad magic asks. elim asks [
  | inl is ↦ absurd (audit_no_serve c.in-Some-audit_of.ensures.found.2 is.is_serve)
  | inr is ↦ rw (audit_network is c.in-Some-audit_of.ensures.found) (c.serve_audit.ensures.bad told bad)
]

pub returns-in-Some-audit_of-clause-is_bad : goal.returns-in-Some-audit_of-clause-is_bad
returns-in-Some-audit_of-clause-is_bad g c = λ told magic asks bad. elim asks [
  | inl is ↦ absurd (audit_no_serve c.in-Some-audit_of.ensures.found.2 is.is_serve)
  | inr is ↦ c.serve_audit.ensures.is_bad told (rw (audit_network is c.in-Some-audit_of.ensures.found) at bad)
]

pub returns-in-Some-audit_of-clause-kept : goal.returns-in-Some-audit_of-clause-kept
returns-in-Some-audit_of-clause-kept g c = λ told magic asks bad. elim asks [
  | inl is ↦ absurd (audit_no_serve c.in-Some-audit_of.ensures.found.2 is.is_serve)
  | inr is ↦ c.serve_audit.ensures.kept told (rw (audit_network is c.in-Some-audit_of.ensures.found) at bad)
]

pub returns-in-Some-audit_of-clause-refused : goal.returns-in-Some-audit_of-clause-refused
returns-in-Some-audit_of-clause-refused g c = λ none.
    let found = c.in-Some-audit_of.ensures.found in
    absurd (none (command.Audit found.0 found.1 _) found.2)

pub returns-in-Some-audit_of-clause-unread : goal.returns-in-Some-audit_of-clause-unread
returns-in-Some-audit_of-clause-unread g c = λ usage. absurd (c.serve_audit.ensures.read usage)

pub returns-in-Some-audit_of-clause-lawful : goal.returns-in-Some-audit_of-clause-lawful
returns-in-Some-audit_of-clause-lawful g c = λ usage. absurd (c.serve_audit.ensures.read usage)

pub returns-in-Some-audit_of-clause-untouched : goal.returns-in-Some-audit_of-clause-untouched
returns-in-Some-audit_of-clause-untouched g c = λ none. absurd (none _ (inr (is_audit c.in-Some-audit_of.ensures.found)))

pub returns-in-Some-audit_of-clause-others : goal.returns-in-Some-audit_of-clause-others
returns-in-Some-audit_of-clause-others g c = c.serve_audit.ensures.others

-- ---- `check-chain`

pub returns-in-Some-check_of-clause-ends : goal.returns-in-Some-check_of-clause-ends
returns-in-Some-check_of-clause-ends g c = record {
  served = λ none. absurd (none.no_check _ c.in-Some-check_of.ensures.found);
  checked = λ count is told fresh.
      rw (one_check count c.in-Some-check_of.count is c.in-Some-check_of.ensures.found)
      (c.serve_check.ensures.ends c.args.turns (g.A.Archive.faults c.args.archive.now) (g.Y.Relay.faults c.args.relay.now) told fresh);
  audited = λ magic is. absurd (audit_no_check is.is_audit c.in-Some-check_of.ensures.found);
  proved = λ said is. absurd (check_no_proof c.in-Some-check_of.ensures.found is);
}

pub returns-in-Some-check_of-clause-causes : goal.returns-in-Some-check_of-clause-causes
returns-in-Some-check_of-clause-causes g c =
    c.serve_check.ensures.causes c.args.turns (g.A.Archive.faults c.args.archive.now) (g.Y.Relay.faults c.args.relay.now)

pub returns-in-Some-check_of-clause-refused : goal.returns-in-Some-check_of-clause-refused
returns-in-Some-check_of-clause-refused g c = λ none.
    absurd (none (command.CheckChain c.in-Some-check_of.count) c.in-Some-check_of.ensures.found)

pub returns-in-Some-check_of-clause-bad : goal.returns-in-Some-check_of-clause-bad
returns-in-Some-check_of-clause-bad g c = λ told bad magic asks. absurd (check_asks_none c.in-Some-check_of.ensures.found asks)

pub returns-in-Some-check_of-clause-is_bad : goal.returns-in-Some-check_of-clause-is_bad
returns-in-Some-check_of-clause-is_bad g c = λ told magic asks bad. absurd (check_asks_none c.in-Some-check_of.ensures.found asks)

pub returns-in-Some-check_of-clause-kept : goal.returns-in-Some-check_of-clause-kept
returns-in-Some-check_of-clause-kept g c = λ told magic asks bad. absurd (check_asks_none c.in-Some-check_of.ensures.found asks)

pub returns-in-Some-check_of-clause-lawful : goal.returns-in-Some-check_of-clause-lawful
returns-in-Some-check_of-clause-lawful g c = λ usage. absurd (c.serve_check.ensures.read usage)

pub returns-in-Some-check_of-clause-untouched : goal.returns-in-Some-check_of-clause-untouched
returns-in-Some-check_of-clause-untouched g c = λ none no_check. absurd (no_check _ c.in-Some-check_of.ensures.found)

pub returns-in-Some-check_of-clause-others : goal.returns-in-Some-check_of-clause-others
returns-in-Some-check_of-clause-others g c = c.serve_check.ensures.others

-- ---- `prove-check`, and words of no command

pub returns-in-None-clause-ends : goal.returns-in-None-clause-ends
returns-in-None-clause-ends g c =
    let no_serve : (said : ServeWords) → IsServeOf (texts c.args.words.now) said → ⊥ = search rules in
    let no_once : (blocks : Word) (network : Network) → IsOnceOf (texts c.args.words.now) blocks network → ⊥ =
    search rules in
    let no_audit : (blocks index : Word) (network : Network) → IsAuditOf (texts c.args.words.now) blocks index network → ⊥ =
    search rules in
    let no_check : (count : ℕ) → IsCheckOf (texts c.args.words.now) count → ⊥ = search rules in record {
      served = λ none was flight index starts.
          let refused = c.serve_proof.ensures.refused none.no_proof in
          rw (refused.0, refused.1) (
            no_traffic,
            (λ t. goes_none _, λ t. sym (append-nil _)),
            usage (no_command (texts c.args.words.now) no_serve no_once no_check no_audit none.no_proof) refl
                (record { traffic = refl; calls = refl; rose = all_rose_none _ }),
          );
      checked = λ count is. absurd (no_check count is);
      audited = λ magic is. absurd (no_audit is.blocks is.index is.of_network is.is_audit);
      proved = λ said is. (
        refl,
        refl,
        c.serve_proof.ensures.no_disk,
        c.serve_proof.ensures.ends c.args.turns (g.A.Archive.faults c.args.archive.now) (g.D.Disk.faults c.args.disk) (g.Y.Relay.faults c.args.relay.now) said is,
      );
    }

pub returns-in-None-clause-refused : goal.returns-in-None-clause-refused
returns-in-None-clause-refused g c = λ none. (c.serve_proof.ensures.refused (λ said is. none (command.ProveCheck said) is)).0

pub returns-in-None-clause-lawful : goal.returns-in-None-clause-lawful
returns-in-None-clause-lawful g c = λ is.
    let no_serve : (said : ServeWords) → IsServeOf (texts c.args.words.now) said → ⊥ = search rules in
    let no_once : (blocks : Word) (network : Network) → IsOnceOf (texts c.args.words.now) blocks network → ⊥ =
    search rules in
    let no_audit : (blocks index : Word) (network : Network) → IsAuditOf (texts c.args.words.now) blocks index network → ⊥ =
    search rules in
    let no_check : (count : ℕ) → IsCheckOf (texts c.args.words.now) count → ⊥ = search rules in
    no_command (texts c.args.words.now) no_serve no_once no_check no_audit (c.serve_proof.ensures.lawful is)

pub returns-in-None-clause-causes : goal.returns-in-None-clause-causes
returns-in-None-clause-causes g c =
    c.serve_proof.ensures.causes c.args.turns (g.A.Archive.faults c.args.archive.now) (g.D.Disk.faults c.args.disk) (g.Y.Relay.faults c.args.relay.now)

pub returns-in-None-clause-bad : goal.returns-in-None-clause-bad
returns-in-None-clause-bad g c = λ told bad. absurd (c.serve_proof.ensures.no_index bad)

pub returns-in-None-clause-is_bad : goal.returns-in-None-clause-is_bad
returns-in-None-clause-is_bad g c = λ told magic asks bad.
    let no_serve : (said : ServeWords) → IsServeOf (texts c.args.words.now) said → ⊥ = search rules in
    let no_audit : (blocks index : Word) (network : Network) → IsAuditOf (texts c.args.words.now) blocks index network → ⊥ =
    search rules in
    elim asks [
      | inl is ↦ absurd (no_serve is.said is.is_serve)
      | inr is ↦ absurd (no_audit is.blocks is.index is.of_network is.is_audit)
    ]

pub returns-in-None-clause-kept : goal.returns-in-None-clause-kept
returns-in-None-clause-kept g c = λ told magic asks bad. unchanged g.D.Disk c.args.disk

pub returns-in-None-clause-others : goal.returns-in-None-clause-others
returns-in-None-clause-others g c = λ told f beyond. refl
