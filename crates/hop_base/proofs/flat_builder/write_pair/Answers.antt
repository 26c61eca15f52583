use Rattle.hop_base.specs.Fields.{pair_text, counted, word, long}
use Rattle.hop_base.proofs.FlatLaws.{five_fields}
use Rattle.hop_base.proofs.flat_builder.write_pair.Goals as goal

pub returns : goal.returns
unfolding pair_text counted word long
returns c =
    five_fields _ _ _ _ _ _ _ _ _ _ _ (rw c.to_be_bytes.ensures at c.extend_reserved.ensures.items) c.extend_reserved-2.ensures.items (rw c.to_be_bytes-2.ensures at c.extend_reserved-3.ensures.items) (rw c.to_be_bytes-3.ensures at c.extend_reserved-4.ensures.items) c.extend_reserved-5.ensures.items
