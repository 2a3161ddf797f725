use Rattle.std.proofs.Common.{◌≡◌, ◌==◌, ap, sym, ◌∙◌, true, false}
use Rattle.std.specs.List.{list_any}
use Rattle.el_fakes.specs.Coming.{LinkState}
use Rattle.el_fakes.proofs.link.MemLinkLink.send.Goals as goal

-- a call that isn't listed doesn't answer that the peer is gone
pub returns-clause-fails : goal.returns-clause-fails
returns-clause-fails c = (
  λ gone. absurd (c.send.ensures.never_gone gone),
  λ listed. absurd (
      let no : true ≡ false = sym listed ∙ ap (λ (s : LinkState). list_any (λ n. s.sends == n) c.args.self.now.send_failing) c.self.view_is
      ∙ sym c.is_send_failing.ensures.listed ∙ c.if-is_send_failing.false in
      cc),
)
