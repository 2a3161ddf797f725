use Rattle.std.proofs.Common.{◌≡◌, ◌∙◌, ◌∷◌, List, Option, Some, None, is_some, option_map, codes, ap, sym, refl}
use Rattle.std.specs.Borrow.{Bor}
use Rattle.el_words.specs.Options.{Word}
use Rattle.el_words.proofs.words.serve_of.Goals as goal

-- a value is there, whatever is seen of it
mapped : (found : Option (Bor Word)) → is_some (option_map (λ value. value.now) found) ≡ is_some found
mapped None = refl
mapped (Some value) = refl

pub returns-clause-found : goal.returns-clause-found
returns-clause-found c = let options = c.in_ok-options.ensures.1 in (
  record {
    blocks = c.in_ok-_blocks._blocks.now;
    index = c.in_ok-_index._index.now;
    relay = option_map (λ value. value.now) c.value_in-3.result;
    settings = record {
      network = c.in_ok-network.network;
      client_port = c.in_ok-client_port.client_port;
      node_port = c.in_ok-client_port.node_port;
      limits = c.in_ok-limits.limits;
      head_bits = c.in_ok-head_bits.head_bits;
      relays = c.is_some-relays.result;
    };
  },
  record {
    given = options.given;
    words_are = c.in_ok-options.ensures.0 ∙ ap (λ (more : List Word). codes "serve" ∷ more) options.words_are;
    options = options.are;
    blocks_is = sym (c.in_ok-_blocks.ensures options.given options.words_are);
    index_is = sym (c.in_ok-_index.ensures options.given options.words_are);
    network_is = c.in_ok-network.ensures options.given options.words_are;
    ports = c.in_ok-client_port.ensures options.given options.words_are;
    limits_are = c.in_ok-limits.ensures options.given options.words_are;
    head_bits_are = c.in_ok-head_bits.ensures options.given options.words_are;
    relay_is = sym (c.value_in-3.ensures options.given options.words_are);
    relays_are = mapped c.value_in-3.result ∙ sym c.is_some-relays.ensures;
  },
  refl,
)
