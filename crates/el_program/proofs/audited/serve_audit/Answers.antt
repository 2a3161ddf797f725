use Rattle.el_program.proofs.audited.serve_audit.Goals as goal

pub returns-in-Main-clause-ends : goal.returns-in-Main-clause-ends
returns-in-Main-clause-ends g c = rw c.in-Main.is c.audit_disk.ensures.ends

pub returns-in-Main-clause-bad : goal.returns-in-Main-clause-bad
returns-in-Main-clause-bad g c = rw c.in-Main.is c.audit_disk.ensures.bad

pub returns-in-Main-clause-is_bad : goal.returns-in-Main-clause-is_bad
returns-in-Main-clause-is_bad g c = rw c.in-Main.is c.audit_disk.ensures.is_bad

pub returns-in-Testnet3-clause-ends : goal.returns-in-Testnet3-clause-ends
returns-in-Testnet3-clause-ends g c = rw c.in-Testnet3.is c.audit_disk-in-Testnet3.ensures.ends

pub returns-in-Testnet3-clause-bad : goal.returns-in-Testnet3-clause-bad
returns-in-Testnet3-clause-bad g c = rw c.in-Testnet3.is c.audit_disk-in-Testnet3.ensures.bad

pub returns-in-Testnet3-clause-is_bad : goal.returns-in-Testnet3-clause-is_bad
returns-in-Testnet3-clause-is_bad g c = rw c.in-Testnet3.is c.audit_disk-in-Testnet3.ensures.is_bad

pub returns-in-Regtest-clause-ends : goal.returns-in-Regtest-clause-ends
returns-in-Regtest-clause-ends g c = rw c.in-Regtest.is c.audit_disk-in-Regtest.ensures.ends

pub returns-in-Regtest-clause-bad : goal.returns-in-Regtest-clause-bad
returns-in-Regtest-clause-bad g c = rw c.in-Regtest.is c.audit_disk-in-Regtest.ensures.bad

pub returns-in-Regtest-clause-is_bad : goal.returns-in-Regtest-clause-is_bad
returns-in-Regtest-clause-is_bad g c = rw c.in-Regtest.is c.audit_disk-in-Regtest.ensures.is_bad

pub returns-in-Main-clause-kept : goal.returns-in-Main-clause-kept
returns-in-Main-clause-kept g c = rw c.in-Main.is c.audit_disk.ensures.kept

pub returns-in-Testnet3-clause-kept : goal.returns-in-Testnet3-clause-kept
returns-in-Testnet3-clause-kept g c = rw c.in-Testnet3.is c.audit_disk-in-Testnet3.ensures.kept

pub returns-in-Regtest-clause-kept : goal.returns-in-Regtest-clause-kept
returns-in-Regtest-clause-kept g c = rw c.in-Regtest.is c.audit_disk-in-Regtest.ensures.kept

pub returns-in-Main-clause-others : goal.returns-in-Main-clause-others
returns-in-Main-clause-others g c = c.audit_disk.ensures.others

pub returns-in-Testnet3-clause-others : goal.returns-in-Testnet3-clause-others
returns-in-Testnet3-clause-others g c = c.audit_disk-in-Testnet3.ensures.others

pub returns-in-Regtest-clause-others : goal.returns-in-Regtest-clause-others
returns-in-Regtest-clause-others g c = c.audit_disk-in-Regtest.ensures.others
