-- The starred examples of paper 01. Kernels: the kernel files that they speak of; FourLanes and FourLanesPso: a kernel
-- of four lanes; Table: the examples themselves.
pub mod Kernels
pub mod FourLanes
pub mod FourLanesPso
pub mod Table
