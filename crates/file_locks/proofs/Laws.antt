-- Held: positions and operations; Descents: the first LOCK that descends; Locks: sets and ways as numbers; Sets: what
-- SKIPs lead where; Pass: the loop; Order: the lanes in the order; NoLocks: kernels without locks.
pub mod Held
pub mod Descents
pub mod Locks
pub mod Sets
pub mod Pass
pub mod Order
pub mod NoLocks
