use Rattle.qx_records.proofs.WrittenInodes.{length_inode_bytes, inode_in-inode_bytes}
use Rattle.qx_records.proofs.laws.an_inode_is_read_back.Goals as goal

pub returns-clause-long : goal.returns-clause-long
returns-clause-long c = λ order inode fits. length_inode_bytes order inode fits.sixteen

pub returns-clause-inode : goal.returns-clause-inode
returns-clause-inode c = inode_in-inode_bytes
