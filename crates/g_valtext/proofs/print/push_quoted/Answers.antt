use Rattle.std.proofs.Common.{arith}
use Rattle.g_valtext.proofs.Ranged.{bytes_fit}
use Rattle.g_valtext.proofs.print.push_quoted.Goals as goal

pub returns-clause-bytes : goal.returns-clause-bytes
returns-clause-bytes c = bytes_fit c.args.text.now (λ i below. omega (arith, c.type_inv.text i))

pub returns-in_err-extend_from_slice-clause-bytes : goal.returns-in_err-extend_from_slice-clause-bytes
returns-in_err-extend_from_slice-clause-bytes c = bytes_fit c.args.text.now (λ i below. omega (arith, c.type_inv.text i))

pub returns-in_err-push_byte-clause-bytes : goal.returns-in_err-push_byte-clause-bytes
returns-in_err-push_byte-clause-bytes c = bytes_fit c.args.text.now (λ i below. omega (arith, c.type_inv.text i))
