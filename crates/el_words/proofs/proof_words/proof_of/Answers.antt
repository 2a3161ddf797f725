use Rattle.std.proofs.Common.{◌∙◌, ◌^◌, codes, sym, subst}
use Rattle.std.proofs.lemmas.Slice.Eq.{bytes_eq-Decides}
use Rattle.el_lines.specs.NodeLines.{ShowsNumber}
use Rattle.el_words.specs.Options.{Word}
use Rattle.el_words.specs.Words.{texts}
use Rattle.el_words.specs.Proofs.{ShowsHeader}
use Rattle.el_words.proofs.ProofLemmas.{any_err, five_words, same_five, parts_of, not_other}
use Rattle.el_words.proofs.proof_words.proof_of.Goals as goal

pub returns-in_default-header_of-clause-none : goal.returns-in_default-header_of-clause-none
returns-in_default-header_of-clause-none c = λ said h.
    let five = five_words c.args.words.now c.command-item.result c.header-item.result c.txid-item.result c.pos-item.result c.branch-item.result
    c.in-len5.len_at_least c.in-len5.len_below c.command-item.is c.header-item.is c.txid-item.is c.pos-item.is c.branch-item.is in
    let parts = parts_of (texts c.args.words.now) _ _ _ _ _ said five h in
    c.in_default-header_of.ensures said.header (subst (λ (t : Word). ShowsHeader t said.header) (sym c.as_bytes.ensures.value) parts.0)

pub returns-in_default-number_of-clause-none : goal.returns-in_default-number_of-clause-none
returns-in_default-number_of-clause-none c = λ said h.
    let five = five_words c.args.words.now c.command-item.result c.header-item.result c.txid-item.result c.pos-item.result c.branch-item.result
    c.in-len5.len_at_least c.in-len5.len_below c.command-item.is c.header-item.is c.txid-item.is c.pos-item.is c.branch-item.is in
    let parts = parts_of (texts c.args.words.now) _ _ _ _ _ said five h in
    c.in_default-number_of.ensures said.pos (subst (λ (t : Word). ShowsNumber t 10 (10 ^ 10) said.pos) (sym c.as_bytes-3.ensures.value) parts.2)

pub returns-clause-found : goal.returns-clause-found
returns-clause-found c =
    let same = (bytes_eq-Decides c.as_str.result.now (codes "prove-check")).0 (not_other _ _ c.ne.ensures c.if-ne.false) in
    record {
      header_text = c.as_bytes.result.now;
      txid_text = c.as_bytes-2.result.now;
      pos_text = c.as_bytes-3.result.now;
      branch_text = c.as_bytes-5.result.now;
      words_are = five_words c.args.words.now c.command-item.result c.header-item.result c.txid-item.result c.pos-item.result c.branch-item.result
          c.in-len5.len_at_least c.in-len5.len_below c.command-item.is c.header-item.is c.txid-item.is c.pos-item.is c.branch-item.is
          ∙ same_five _ _ _ _ _ _ _ _ _ _ (sym c.as_str.ensures.value ∙ same) (sym c.as_bytes.ensures.value) (sym c.as_bytes-2.ensures.value) (sym c.as_bytes-3.ensures.value)
          (sym c.as_bytes-5.ensures.value);
      header_is = c.in-Some.ensures;
      txid_is = c.in-Some-hash_of.ensures;
      pos_is = c.in-Some-number_of.ensures;
      branch_is = rw c.in-Some-2.is at c.in_ok-branch.ensures.found;
    }

pub returns-in_err-branch-clause-memory : goal.returns-in_err-branch-clause-memory
returns-in_err-branch-clause-memory c =
    let shown = c.shows_branch.ensures.shown c.if-not-shows_branch.false in
    let same = (bytes_eq-Decides c.as_str.result.now (codes "prove-check")).0 (not_other _ _ c.ne.ensures c.if-ne.false) in
    any_err c.from_residual.result (
      record { header = c.in-Some.header; txid = c.in-Some-hash_of.txid; pos = c.in-Some-number_of.pos; branch = shown.0 },
      record {
        header_text = c.as_bytes.result.now;
        txid_text = c.as_bytes-2.result.now;
        pos_text = c.as_bytes-3.result.now;
        branch_text = c.as_bytes-4.result.now;
        words_are = five_words c.args.words.now c.command-item.result c.header-item.result c.txid-item.result c.pos-item.result c.branch-item.result
            c.in-len5.len_at_least c.in-len5.len_below c.command-item.is c.header-item.is c.txid-item.is c.pos-item.is c.branch-item.is
            ∙ same_five _ _ _ _ _ _ _ _ _ _ (sym c.as_str.ensures.value ∙ same) (sym c.as_bytes.ensures.value) (sym c.as_bytes-2.ensures.value) (sym c.as_bytes-3.ensures.value)
            (sym c.as_bytes-4.ensures.value);
        header_is = c.in-Some.ensures;
        txid_is = c.in-Some-hash_of.ensures;
        pos_is = c.in-Some-number_of.ensures;
        branch_is = shown.1;
      },
    )
