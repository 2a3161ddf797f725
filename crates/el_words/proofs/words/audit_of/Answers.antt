use Rattle.std.proofs.Common.{◌∙◌, ◌∷◌, List, codes, ap, sym, refl}
use Rattle.el_words.specs.Options.{Word, words_of}
use Rattle.el_words.proofs.OptionLemmas.{found_from}
use Rattle.el_words.proofs.words.audit_of.Goals as goal

pub returns-in_err-options-clause-none : goal.returns-in_err-options-clause-none
returns-in_err-options-clause-none c = rw c.from_residual.ensures (λ blocks index network is.
    c.in_err-options.ensures (words_of is.given) is.words_are
    (record { given = is.given; words_are = refl; are = is.options }))

pub returns-clause-found : goal.returns-clause-found
returns-clause-found c =
    let options = c.in_ok-options.ensures.1 in
    found_from _ c.network_in.result (c.network_in.ensures options.given options.words_are) (λ network is. (
      c.in_ok-_blocks._blocks.now,
      c.in_ok-_index._index.now,
      record {
        given = options.given;
        words_are = c.in_ok-options.ensures.0
            ∙ ap (λ (more : List Word). codes "audit" ∷ more) options.words_are;
        options = options.are;
        blocks_is = sym (c.in_ok-_blocks.ensures options.given options.words_are);
        index_is = sym (c.in_ok-_index.ensures options.given options.words_are);
        network_is = is;
      },
    ))
