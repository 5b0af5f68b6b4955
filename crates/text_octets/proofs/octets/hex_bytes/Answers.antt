use Rattle.text_fields.specs.OctetsLaws.{read_answer}
use Rattle.text_octets.proofs.octets.hex_bytes.Goals as goal

pub returns : goal.returns
returns c = record {
  value = read_answer _ _ _ _ c.put_octets-n.ensures.value c.octets_read.ensures;
  out_after = c.put_octets-n.ensures.out_after;
}
