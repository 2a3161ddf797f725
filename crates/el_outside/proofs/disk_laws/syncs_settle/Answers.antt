use Rattle.el_outside.proofs.Images.{is_synced, sync_durable, sync_keeps}
use Rattle.el_outside.proofs.disk_laws.syncs_settle.Goals as goal

pub returns-clause-only : goal.returns-clause-only
returns-clause-only c = is_synced

pub returns-clause-on_disk : goal.returns-clause-on_disk
returns-clause-on_disk c = sync_durable

pub returns-clause-nothing_new : goal.returns-clause-nothing_new
returns-clause-nothing_new c = sync_keeps
