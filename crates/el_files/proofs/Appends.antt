-- How lists of nodes are appended to.
use Rattle.std.proofs.Common.{◌≡◌, List, [], ◌∷◌, ◌++◌, sym, ap, ◌∙◌, append_assoc, append-nil, Result, Ok, Err, OnErr}
use Rattle.el_base.proofs.Lists.{all_append, all_weaker}
use Rattle.el_chain.specs.declared.node.Node.{Node}
use Rattle.el_files.specs.Appending.{AppendsOnly}

-- nothing was appended
pub only_none : (P : Node → Type 0) (old : List Node) → AppendsOnly P old old
only_none P old = record { more = []; appended = sym (append-nil old); each = tt }

-- more was
pub only_joined : (P : Node → Type 0) (old mid new : List Node) → AppendsOnly P old mid → AppendsOnly P mid new → AppendsOnly P old new
only_joined P old mid new a b = record {
  more = a.more ++ b.more;
  appended = b.appended ∙ ap (λ (t : List Node). t ++ b.more) a.appended ∙ append_assoc old a.more b.more;
  each = all_append P a.more b.more a.each b.each;
}

-- one more was
pub only_more : (P : Node → Type 0) (old mid new : List Node) (n : Node) → AppendsOnly P old mid → new ≡ mid ++ n ∷ [] → P n → AppendsOnly P old new
only_more P old mid new n a is good = only_joined P old mid new a (record { more = n ∷ []; appended = is; each = (good, tt) })

pub only_weaker : (P Q : Node → Type 0) (old new : List Node) → ((n : Node) → P n → Q n) → AppendsOnly P old new → AppendsOnly Q old new
only_weaker P Q old new f a = record { more = a.more; appended = a.appended; each = all_weaker P Q a.more f a.each }

-- what holds in any case holds on an error
pub on_err : {T E : Type 0} (result : Result T E) (P : Type 0) → P → OnErr result P
on_err (Ok x) P p = tt
on_err (Err e) P p = p
